use Rattle.hub_core.proofs.join_keys.asked_count.Given as goal
use Rattle.hub_core.specs.JoinKeys.{asked_among, join_keys}
use Rattle.std.proofs.Common.{length, take, ◌≡◌, ◌≤◌}

abbrev pub invariant-loop-key : goal.invariant-loop-key
invariant-loop-key l = record {
  few : l.count ≤ l.key-index;
  are : l.count ≡ length (asked_among (join_keys (take l.key-index l.keys.items)));
}
