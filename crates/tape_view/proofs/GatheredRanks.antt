-- The set of the ranks that pass a test, gathered rank by rank.
use Rattle.{net_view.proofs.RankSets.{has-ranks, is_rank, ranks_alike}, std.proofs.Common.nat_lt}
use Rattle.{std.proofs.lemmas.Bool.eqb-true, tape_view.proofs.Words.{Bool, Heard, List, Text, []}}
use Rattle.tape_view.proofs.Words.{arith, false, has_rank, key, nat_tests, rank_count, rank_decided}
use Rattle.tape_view.proofs.Words.{ranks_that, refl, true, ℕ, ◌&&◌, ◌+◌, ◌<◌, ◌==◌, ◌||◌, ◌≡◌}

-- the ranks that a member holds
abbrev pub held : Heard → Text → Text → ℕ → Bool
held tape channel nick = rank_decided tape.readings (key tape channel) (key tape nick)

-- the ranks below this one that pass
abbrev pub below : (ℕ → Bool) → ℕ → ℕ → Bool
below test k r = nat_lt r k && test r

small_rank : (r : ℕ) → is_rank r ≡ true → r < 16
unfolding rank_count
small_rank r h = grind (arith, eqb-true)

pub none_below : (test : ℕ → Bool) → ranks_that (below test 0) ≡ []
unfolding ranks_that rank_count
none_below test = refl

pub all_below : (test : ℕ → Bool) → ranks_that (below test 16) ≡ ranks_that test
all_below test = grind (arith, ranks_alike, small_rank, nat_tests)

-- one more rank, which passes
pub rank_put : (test : ℕ → Bool) (k : ℕ) (ranks : List ℕ) → ranks ≡ ranks_that (below test k)
    → test k ≡ true → ranks_that (λ r. r == k || has_rank ranks r) ≡ ranks_that (below test (k + 1))
rank_put test k ranks so_far held = grind (arith, ranks_alike, has-ranks, eqb-true)

-- and one that does not
pub rank_left : (test : ℕ → Bool) (k : ℕ) → test k ≡ false
    → ranks_that (below test k) ≡ ranks_that (below test (k + 1))
rank_left test k not_held = grind arith
