use Rattle.sasl.proofs.offer.offers.Given as goal
use Rattle.sasl.specs.Offer.{offers}
use Rattle.std.proofs.Common.{length, ◌≡◌}

abbrev pub invariant-loop-word : goal.invariant-loop-word
invariant-loop-word l = offers l.mechanism l.fn.list ≡ offers l.mechanism l.rest

abbrev pub decreases-loop-word : goal.decreases-loop-word
decreases-loop-word l = length l.rest
