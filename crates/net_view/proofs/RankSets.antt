-- Sets of ranks, by the tests that make them.
use Rattle.net_view.proofs.Words.{◌≡◌, ◌&&◌, ◌∷◌, arith, ℕ, Bool, true, List, [], filter, refl}
use Rattle.net_view.proofs.Words.{eq-eqb, list_any, rank_count, ranks_that, has_rank}
use Rattle.std.specs.List.{range_with_len}

-- whether a set can have the rank
abbrev pub is_rank : ℕ → Bool
is_rank rank = has_rank (range_with_len 0 rank_count) rank

-- tests that agree on some ranks
pub alike_in : (f g : ℕ → Bool) (xs : List ℕ) → ((r : ℕ) → has_rank xs r ≡ true → f r ≡ g r)
    → (filter f xs ≡ filter g xs) × (list_any f xs ≡ list_any g xs)
alike_in f g [] alike = (refl, refl)
alike_in f g (x ∷ xs) alike = grind (arith, eq-eqb, alike x, alike_in f g xs)

pub ranks_alike : (f g : ℕ → Bool) → ((rank : ℕ) → is_rank rank ≡ true → f rank ≡ g rank)
    → ranks_that f ≡ ranks_that g
unfolding ranks_that
ranks_alike f g alike = (alike_in f g _ alike).0

module _ (f : ℕ → Bool) where
  has-filter : (xs : List ℕ) (r : ℕ) → has_rank (filter f xs) r ≡ (f r && has_rank xs r)
  has-filter [] r = grind arith
  has-filter (x ∷ xs) r = grind (arith, has-filter xs r)

  pub has-ranks : (rank : ℕ) → is_rank rank ≡ true → has_rank (ranks_that f) rank ≡ f rank
  unfolding ranks_that
  has-ranks rank h = grind (arith, has-filter)

  -- what a set has passes the test that made it
  pub has_of_set : (r : ℕ) → has_rank (ranks_that f) r ≡ true → f r ≡ true
  unfolding ranks_that
  has_of_set r h = grind (arith, has-filter)
