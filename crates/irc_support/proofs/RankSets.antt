-- Sets of ranks by the test that their ranks pass.
use Rattle.irc_support.specs.{RankBits.ranks_at_bits, Ranks.{has_rank, rank_count, ranks_that}}
use Rattle.std.proofs.Common.{◌%◌, ◌*◌, ◌+◌, ◌-◌, ◌<◌, ◌||◌, All, [], ap, bit_and, false, suc, ℕ}
use Rattle.std.proofs.Common.{◌&&◌, ◌==◌, ◌^◌, ◌∙◌, ◌∷◌, ◌≡◌, filter, not, sym, take, zero}
use Rattle.std.proofs.Common.{◌/◌, ◌≢◌, ◌≤◌, Bool, List, arith, bit_or, nat_le, nat_lt, refl, true}
use Rattle.std.proofs.lemmas.{Bool.Decides.nat_tests, List.Elements.{All-cons, All-nil}}
use Rattle.std.proofs.lemmas.Nat.Bits.{bit_at-trailing_zeros, bit_at_clear_other, bit_at_clear_same}
use Rattle.std.proofs.lemmas.Nat.Bits.{bit_at-zero, bit_at_set_other, bit_at_set_same, shr_and_one}
use Rattle.std.specs.{Int.{bit_at, bit_not, trailing_zeros, w16}, List.range_with_len}
use Rattle.irc_support.specs.RankBits.{bits_of, bits_of-ranks_at_bits}

pub itself : (a : ℕ) → (a == a) ≡ true
itself a = grind (arith, nat_tests)

-- the ranks from a on, c of them, that pass
abbrev among : (ℕ → Bool) → ℕ → ℕ → List ℕ
among test a c = filter test (range_with_len a c)

-- tests that agree on the ranks make one set
among_agree : (p q : ℕ → Bool) (c a : ℕ) → ((r : ℕ) → a ≤ r → r < a + c → p r ≡ q r) →
    among p a c ≡ among q a c
among_agree p q zero a same = refl
among_agree p q (suc c) a same =
    let rest = among_agree p q c (a + 1) (λ r low high. same r (omega arith) (omega arith)) in
    grind (arith, same a, rest)

has_among : (test : ℕ → Bool) (c a r : ℕ) →
    has_rank (among test a c) r ≡ (nat_le a r && nat_lt r (a + c) && test r)
has_among test zero a r = grind (arith, nat_tests)
has_among test (suc c) a r = grind (arith, nat_tests, has_among test c (a + 1) r)

-- ranks that fail are passed over
skip : (test : ℕ → Bool) (m n c a : ℕ) → m + n ≡ c →
    ((r : ℕ) → a ≤ r → r < a + m → test r ≡ false) → among test a c ≡ among test (a + m) n
skip test zero n c a sum none = grind arith
skip test (suc m) n zero a sum none = absurd (omega arith)
skip test (suc m) n (suc c) a sum none =
    let none_more = λ (r : ℕ) (low : a + 1 ≤ r) (high : r < a + 1 + m).
    none r (omega arith) (omega arith) in
    grind (arith, none a, skip test m n c (a + 1) (omega arith) none_more)

at_least : (test : ℕ → Bool) (k c a : ℕ) → k ≤ a → All (λ r. k ≤ r) (among test a c)
at_least test k zero a low = All-nil (λ r. k ≤ r)
at_least test k (suc c) a low = grind (arith, All-cons, at_least test k c (a + 1))

pub ranks_that_agree : (p q : ℕ → Bool) → ((r : ℕ) → r < 16 → p r ≡ q r) →
    ranks_that p ≡ ranks_that q
unfolding ranks_that rank_count
ranks_that_agree p q same = among_agree p q 16 0 (λ r low high. same r high)

pub has_rank-ranks_that : (test : ℕ → Bool) (r : ℕ) → r < 16 → has_rank (ranks_that test) r ≡ test r
unfolding ranks_that rank_count
has_rank-ranks_that test r small = grind (arith, nat_tests, has_among test 16 0 r)

pub has_rank-past : (test : ℕ → Bool) (r : ℕ) → 16 ≤ r → has_rank (ranks_that test) r ≡ false
unfolding ranks_that rank_count
has_rank-past test r past = grind (arith, nat_tests, has_among test 16 0 r)

pub ranks_that_none : (test : ℕ → Bool) → ((r : ℕ) → r < 16 → test r ≡ false) → ranks_that test ≡ []
unfolding ranks_that rank_count
ranks_that_none test none = ranks_that_agree test (λ r. false) none

-- the first that passes comes first, and what follows is above it
first : (test : ℕ → Bool) (k : ℕ) → k < 16 → test k ≡ true →
    ((i : ℕ) → i < k → test i ≡ false) → ranks_that test ≡ k ∷ among test (k + 1) (15 - k)
unfolding ranks_that rank_count
first test k small at before =
    let past = skip test k (suc (15 - k)) 16 0 (omega arith) (λ r low high. before r (omega arith)) in
    grind (arith, past)

-- a set is determined by which ranks are in it
pub ranks_that-has_rank : (test : ℕ → Bool) →
    ranks_that test ≡ ranks_that (has_rank (ranks_that test))
ranks_that-has_rank test =
    ranks_that_agree test _ (λ r small. sym (has_rank-ranks_that test r small))

-- and begins with its highest rank, after which it is the set without that
split_first : (test : ℕ → Bool) (k : ℕ) → k < 16 → test k ≡ true →
    ((i : ℕ) → i < k → test i ≡ false) →
    ranks_that test ≡ k ∷ ranks_that (λ r. not (r == k) && has_rank (ranks_that test) r)
unfolding ranks_that rank_count
split_first test k small at before =
    let left : ℕ → Bool = λ r. not (r == k) && has_rank (ranks_that test) r in
    let gone =
    skip left (k + 1) (15 - k) 16 0 (omega arith)
    (λ i l h. grind (arith, nat_tests, before i, has_rank-ranks_that test i)) in
    let kept =
    among_agree left test (15 - k) (k + 1)
    (λ r l h. grind (arith, nat_tests, has_rank-ranks_that test r)) in
    grind (arith, first test k small at before, gone, kept)

-- The set at the bits, as the code tests and changes them.
module _ (bits : ℕ) (ranks : List ℕ) (seen : ranks_at_bits bits ≡ ranks) where
  abbrev stands : ℕ → Bool
  stands r = bit_at bits r == 1

  pub bits_back : bits < 2 ^ 16 → bits_of ranks ≡ bits
  bits_back small = rw (← seen) (bits_of-ranks_at_bits bits small)

  pub has_rank_bits : (r : ℕ) → r < 16 → (bit_and (bits / 2 ^ r) 1 == 1) ≡ has_rank ranks r
  has_rank_bits r small = rw (← seen, shr_and_one bits r) (sym (has_rank-ranks_that stands r small))

  pub has_rank_past : (r : ℕ) → 16 ≤ r → nat_lt r 16 ≡ has_rank ranks r
  has_rank_past r past = grind (arith, nat_tests, has_rank-past)

  pub set_of_bits : ranks ≡ ranks_that (has_rank ranks)
  set_of_bits = rw (← seen) (ranks_that-has_rank stands)

  pub ranks_at_set : (k : ℕ) → k < 16 →
      ranks_at_bits (bit_or bits (1 * 2 ^ k % 2 ^ 16))
      ≡ ranks_that (λ r. (r == k) || has_rank ranks r)
  ranks_at_set k small = rw (← seen) (ranks_that_agree _ _ (λ r below.
      let same = bit_at_set_same w16 bits k small in
      let other = bit_at_set_other w16 bits k small r in
      grind (arith, nat_tests, has_rank-ranks_that stands r below, same, other)))

  pub ranks_at_clear : (k : ℕ) → k < 16 →
      ranks_at_bits (bit_and bits (bit_not w16 (1 * 2 ^ k % 2 ^ 16)))
      ≡ ranks_that (λ r. not (r == k) && has_rank ranks r)
  ranks_at_clear k small = rw (← seen) (ranks_that_agree _ _ (λ r below.
      let same = bit_at_clear_same w16 bits k small in
      let other = bit_at_clear_other w16 bits k small r below in
      grind (arith, nat_tests, has_rank-ranks_that stands r below, same, other)))

  pub no_bits : bits ≡ 0 → ranks ≡ []
  no_bits none = rw (← seen) (ranks_that_none _ (λ r small. rw (none, bit_at-zero r) refl))

  module _ (some : bits ≢ 0) (small : bits < 2 ^ 16) where
    abbrev low : ℕ
    low = trailing_zeros w16 bits

    -- the lowest bit is the highest rank
    pub split_of_bits : ranks ≡ low ∷ ranks_that (λ r. not (r == low) && has_rank ranks r)
    split_of_bits =
        let at = bit_at-trailing_zeros w16 bits (omega arith) small in
        rw (← seen) (split_first stands low at.0 (rw at.1 refl) (λ i h. rw (at.2 i h) refl))

    pub top_of_bits : (rest : List ℕ) × (ranks ≡ low ∷ rest) × All (λ r. low ≤ r) (low ∷ rest)
    top_of_bits =
        let at = bit_at-trailing_zeros w16 bits (omega arith) small in (
          among stands (low + 1) (15 - low),
          sym seen ∙ first stands low at.0 (rw at.1 refl) (λ i h. rw (at.2 i h) refl),
          grind (arith, All-cons, at_least stands low (15 - low) (low + 1)),
        )

-- what a set begins with is a set
pub first_of_set : (ranks : List ℕ) (test : ℕ → Bool) → ranks_that test ≡ ranks →
    ranks_that (has_rank (take 1 ranks)) ≡ take 1 ranks
first_of_set [] test is = ranks_that_none (has_rank []) (λ r small. refl)
first_of_set (k ∷ ranks) test is =
    let top : ℕ → Bool = has_rank (k ∷ []) in
    let small : k < 16 = grind (arith, nat_tests, has_rank-past test k) in
    split_first top k small (grind (arith, nat_tests)) (λ i h. grind (arith, nat_tests))
    ∙ ap (λ (rs : List ℕ). k ∷ rs)
    (ranks_that_none _ (λ r h. grind (arith, nat_tests, has_rank-ranks_that top r h)))
