use Rattle.hub_core.proofs.join_keys.copy_all.Given as goal
use Rattle.hub_core.specs.JoinKeys.{join_keys}
use Rattle.std.proofs.Common.{take, ◌≡◌}

abbrev pub invariant-loop-key : goal.invariant-loop-key
invariant-loop-key l = join_keys l.copies.items ≡ join_keys (take l.key-index l.keys.items)
