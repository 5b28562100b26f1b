-- A set of ranks as a number of 16 bits, where bit r stands for rank r; nothing is lost.
use Rattle.std.specs.Prelude.{◌≡◌, ℕ, suc, zero, ◌+◌, ◌*◌, ◌/◌, ◌%◌, ◌^◌, ◌<◌, Bool, true, false}
use Rattle.std.specs.Prelude.{◌==◌, cond, List, [], ◌∷◌, filter, refl}
use Rattle.std.specs.List.{range_with_len}
use Rattle.std.specs.Int.{bit_at}
use Rattle.std.proofs.Common.{sym, subst, ◌∙◌, arith}
use Rattle.std.proofs.Math.Nat.{pow-suc, div-div-eq-div-mul, div-one}
use Rattle.std.proofs.lemmas.Bool.Decides.{nat_tests}
use Rattle.irc_support.specs.Ranks.{rank_count, ranks_that}

abbrev pub ranks_at_bits : ℕ → List ℕ
ranks_at_bits bits = ranks_that (λ r. bit_at bits r == 1)

abbrev pub bits_of : List ℕ → ℕ
bits_of [] = 0
bits_of (r ∷ ranks) = 2 ^ r + bits_of ranks

-- the bits that are 1 among the c bits from a on
abbrev ones_from : ℕ → ℕ → ℕ → List ℕ
ones_from bits a c = filter (λ r. bit_at bits r == 1) (range_with_len a c)

odd : (p q h : ℕ) → q ≡ 2 * h + 1 → p + h * (p * 2) ≡ q * p
odd p q h e = rw e (omega arith)

even : (p q h : ℕ) → q ≡ 2 * h → h * (p * 2) ≡ q * p
even p q h e = rw e (omega arith)

next_power : (a : ℕ) → 2 ^ (a + 1) ≡ 2 ^ a * 2
next_power a = let e : a + 1 ≡ suc a = omega arith in rw e (pow-suc 2 a)

halved : (n a : ℕ) → n / 2 ^ (a + 1) ≡ n / 2 ^ a / 2
halved n a = rw (next_power a) (sym (div-div-eq-div-mul n (2 ^ a) 2))

-- with q the number from bit a on, and rest the value of the bits above a
told : (b : Bool) (p q rest : ℕ) → (q % 2 == 1) ≡ b → rest ≡ q / 2 * (p * 2) →
    (cond b (p + rest) rest) ≡ q * p
told true p q rest e r = rw r (odd p q (q / 2) (grind (arith, nat_tests)))
told false p q rest e r = rw r (even p q (q / 2) (grind (arith, nat_tests)))

bits_of-cond : (b : Bool) (a : ℕ) (ranks : List ℕ) →
    bits_of (cond b (a ∷ ranks) ranks) ≡ cond b (2 ^ a + bits_of ranks) (bits_of ranks)
bits_of-cond true a ranks = refl
bits_of-cond false a ranks = refl

bits_of-ones_from : (n c a : ℕ) → n / 2 ^ a < 2 ^ c → bits_of (ones_from n a c) ≡ n / 2 ^ a * 2 ^ a
bits_of-ones_from n zero a small = let e : n / 2 ^ a ≡ 0 = omega arith in rw e (omega arith)
bits_of-ones_from n (suc c) a small =
    let twice : n / 2 ^ a < 2 ^ c * 2 = subst (λ (x : ℕ). n / 2 ^ a < x) (pow-suc 2 c) small in
    let below : n / 2 ^ (a + 1) < 2 ^ c = rw (halved n a) (omega arith) in
    let above = bits_of-ones_from n c (a + 1) below in
    let rest : bits_of (ones_from n (a + 1) c) ≡ n / 2 ^ a / 2 * (2 ^ a * 2) =
    above ∙ rw (halved n a, next_power a) refl in
    bits_of-cond (bit_at n a == 1) a (ones_from n (a + 1) c)
    ∙ told (bit_at n a == 1) (2 ^ a) (n / 2 ^ a) (bits_of (ones_from n (a + 1) c)) refl rest

small_enough : (n : ℕ) → n < 2 ^ 16 → n / 2 ^ 0 < 2 ^ rank_count
unfolding rank_count
small_enough n small = rw (div-one n) small

pub bits_of-ranks_at_bits : (n : ℕ) → n < 2 ^ 16 → bits_of (ranks_at_bits n) ≡ n
unfolding ranks_that
bits_of-ranks_at_bits n small =
    bits_of-ones_from n rank_count 0 (small_enough n small) ∙ rw (div-one n) (omega arith)
