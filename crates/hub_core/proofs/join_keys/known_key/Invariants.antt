use Rattle.hub_core.proofs.join_keys.known_key.Given as goal
use Rattle.hub_core.specs.JoinKeys.{join_keys, known_key}
use Rattle.std.proofs.Common.{drop, ◌≡◌}

abbrev pub invariant-loop-key : goal.invariant-loop-key
invariant-loop-key l = known_key l.mapping l.name (join_keys (drop l.key-index l.keys.items))
    ≡ known_key l.mapping l.name (join_keys l.keys.items)
