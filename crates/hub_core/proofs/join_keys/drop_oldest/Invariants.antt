use Rattle.hub_core.proofs.join_keys.drop_oldest.Given as goal
use Rattle.hub_core.specs.JoinKeys.{join_keys, without_oldest}
use Rattle.std.proofs.Common.{drop, take, ◌++◌, ◌≡◌}

abbrev pub invariant-loop-place : goal.invariant-loop-place
invariant-loop-place l = record {
  same : l.keys.items ≡ l.initial.keys.items;
  rest : without_oldest (join_keys l.keys.items)
      ≡ join_keys (take l.place l.keys.items) ++ without_oldest (join_keys (drop l.place l.keys.items));
}
