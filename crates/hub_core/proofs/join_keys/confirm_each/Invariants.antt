use Rattle.hub_core.proofs.join_keys.confirm_each.Given as goal
use Rattle.hub_core.specs.JoinKeys.{is_one, join_keys, known_if}
use Rattle.std.proofs.Common.{drop, map, take, ◌++◌, ◌≡◌}

abbrev pub invariant-loop-key : goal.invariant-loop-key
invariant-loop-key l = join_keys l.keys
    ≡ map (known_if (is_one l.mapping l.name)) (take l.key-index (join_keys l.initial.keys))
    ++ drop l.key-index (join_keys l.initial.keys)
