use Rattle.sasl.proofs.said.has_item.Given as goal
use Rattle.sasl.specs.Said.{has_item}
use Rattle.std.proofs.Common.{length, ◌≡◌}

abbrev pub invariant-loop-first : goal.invariant-loop-first
invariant-loop-first l =
    has_item l.separator l.item l.fn.list ≡ has_item l.separator l.item l.rest

abbrev pub decreases-loop-first : goal.decreases-loop-first
decreases-loop-first l = length l.rest
