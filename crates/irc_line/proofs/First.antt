-- The first place of a byte, as a search answers it.
use Rattle.{memchr.specs.Find.IsFirstByte, std.proofs.Common.{Bool, List, None, Option, Some}}
use Rattle.std.proofs.{Common.{arith, get_or, length, ℕ, ◌≡◌}, lemmas.Bool.false_from_ne_true}
use Rattle.std.proofs.lemmas.{Bool.Decides.nat_tests, List.Sums.position_or_len_is}
use Rattle.std.specs.List.{position}

pub first_position : (test : ℕ → Bool) (text : List ℕ) (found : Option ℕ) →
    IsFirstByte test text found → found ≡ position test text
first_position test text None h =
    let at =
    position_or_len_is test text (length text) 0 (omega arith)
    (λ k l. false_from_ne_true (test (get_or text k 0)) (h k (omega arith) l))
    (λ l. absurd (omega arith)) in
    grind (arith, nat_tests)
first_position test text (Some n) h =
    let at =
    position_or_len_is test text n 0 (omega arith)
    (λ k l. false_from_ne_true (test (get_or text k 0)) (h.0.before k (omega arith) l))
    (λ l. h.1) in
    grind (arith, nat_tests)
