-- The bytes of kept lines.
use Rattle.std.proofs.Common.{length, sum_by}
use Rattle.std.proofs.lemmas.List.{take_more, Sums.sum_by-cons}
use Rattle.tape_view.proofs.{TapeLast.{tape_none, tape_push}, Words.{Arrival, Bool, Kept, List, Lost}}
use Rattle.tape_view.proofs.Words.{Parts, Received, [], arith, get_or, refl, take, tape_of, true, false}
use Rattle.tape_view.proofs.Words.{with_lost, ℕ, ◌+◌, ◌<◌, ◌∷◌, ◌≡◌, ◌∙◌}
use Rattle.tape_view.specs.Weights.{arrival_bytes, arrivals_bytes, line_bytes, line_cost}

-- a loss takes nothing
lost_free : (lost : Bool) (items : List Arrival) →
    arrivals_bytes (with_lost lost items) ≡ arrivals_bytes items
unfolding arrivals_bytes
lost_free true items = sum_by-cons arrival_bytes Lost items ∙ omega arith
lost_free false items = refl

line_more : (line : Parts) (items : List Arrival) →
    arrivals_bytes (Received line ∷ items) ≡ arrivals_bytes items + (line_cost + line_bytes line)
unfolding arrivals_bytes
line_more line items = sum_by-cons arrival_bytes (Received line) items ∙ omega arith

pub bytes_none : (A : Type 0) → arrivals_bytes (tape_of {A = A} []) ≡ 0
unfolding arrivals_bytes
bytes_none A = rw (tape_none A) refl

-- one line more
pub bytes_more : {A : Type 0} (kept : List (Kept A)) (i : ℕ) (k : Kept A) → i < length kept →
    k ≡ get_or kept i k →
    arrivals_bytes (tape_of (take (i + 1) kept))
    ≡ arrivals_bytes (tape_of (take i kept)) + (line_cost + line_bytes k.line)
bytes_more kept i k within at =
    rw (take_more kept i k within, ← at, tape_push (take i kept) k, lost_free, line_more) refl

-- one parameter more
pub params_more : (param : List ℕ) (left : List (List ℕ)) →
    sum_by length (param ∷ left) ≡ length param + sum_by length left
params_more param left = sum_by-cons length param left
