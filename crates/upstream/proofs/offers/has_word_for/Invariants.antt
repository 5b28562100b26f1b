use Rattle.upstream.proofs.offers.has_word_for.Given as goal
use Rattle.std.{proofs.Common.{length, ◌==◌, ◌≡◌}, specs.List.{list_any, slice_split}}
use Rattle.upstream.specs.Registration.{is_word_for}

abbrev pub invariant-loop-word : goal.invariant-loop-word
invariant-loop-word l =
    list_any (is_word_for l.name) (slice_split (λ b. b == 32) l.fn.list)
    ≡ list_any (is_word_for l.name) (slice_split (λ b. b == 32) l.rest)

abbrev pub decreases-loop-word : goal.decreases-loop-word
decreases-loop-word l = length l.rest
