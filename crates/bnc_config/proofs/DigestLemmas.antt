-- Digests whose bytes are all compared.
use Rattle.{bnc_config.specs.Digest.difference_of, std.proofs.Common.{◌∷◌, ◌≡◌, List, [], arith}}
use Rattle.std.proofs.{Common.{bit_or, length, refl, ℕ}, lemmas.Nat.{le_or_l, le_or_r}}
use Rattle.std.specs.{Int.Bits.{bit_xor, xor_assoc, xor_self, xor_zero_l, xor_zero_r}, List.fold}
use Rattle.std.specs.List.{zip}

-- two numbers that differ in no bit are equal
same_from_xor : (a b : ℕ) → bit_xor a b ≡ 0 → a ≡ b
same_from_xor a b none = cc (xor_zero_r a, xor_self b, xor_assoc a b b, xor_zero_l b)

abbrev with_pair : ℕ → ℕ × ℕ → ℕ
with_pair difference pair = bit_or difference (bit_xor pair.0 pair.1)

none_before : (found : ℕ) (a b : List ℕ) → length a ≡ length b → fold with_pair found (zip a b) ≡ 0
    → (found ≡ 0) × (a ≡ b)
none_before found [] [] same none = (none, refl)
none_before found [] (y ∷ ys) same none = absurd (omega arith)
none_before found (x ∷ xs) [] same none = absurd (omega arith)
none_before found (x ∷ xs) (y ∷ ys) same none =
    let rest = none_before (bit_or found (bit_xor x y)) xs ys (omega arith) none in
    grind (arith, le_or_l found, le_or_r found, same_from_xor x y)

-- bytes with no difference are equal
pub same_from_difference : (a b : List ℕ) → length a ≡ length b → difference_of a b ≡ 0 → a ≡ b
same_from_difference a b same none = (none_before 0 a b same none).1

pub none_more : (found : ℕ) (a : List ℕ) → found ≡ 0 → fold with_pair found (zip a a) ≡ 0
none_more found [] none = none
none_more found (x ∷ xs) none =
    none_more (bit_or found (bit_xor x x)) xs (rw (none, xor_self x) refl)
