-- Sets of ranks: lists of the ranks that are in, highest first. Rank 0 is the highest.
use Rattle.std.specs.Prelude.{ℕ, Bool, ◌==◌, List, filter}
use Rattle.std.specs.List.{list_any, range_with_len}

-- the number of ranks that PREFIX can name, from 0 on
unfoldable pub rank_count : ℕ
rank_count = 16

-- the set of the ranks that pass a test
unfoldable pub ranks_that : (ℕ → Bool) → List ℕ
ranks_that test = filter test (range_with_len 0 rank_count)

-- whether the rank is in the set
abbrev pub has_rank : List ℕ → ℕ → Bool
has_rank ranks rank = list_any (λ r. r == rank) ranks
