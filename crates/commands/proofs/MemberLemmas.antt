-- A member's line, part by part.
use Rattle.{irc_support.specs.Written.symbols_of, net_view.specs.Ranking.symbol_of}
use Rattle.net_view.specs.{Ranks.{has_rank, rank_count, ranks_that}, Text.Text, Tokens.Token}
use Rattle.std.proofs.Common.{◌++◌, ◌+◌, ◌∷◌, ◌≡◌, Bool, List, Option, [], append_assoc, arith}
use Rattle.std.proofs.{Common.{cond, filter, sym, ℕ}, lemmas.List.map-id}
use Rattle.std.proofs.lemmas.List.Elements.{filter_map-append}
use Rattle.std.proofs.lemmas.List.FromFn.{filter_of_map_range_with_len_more}
use Rattle.std.specs.{List.range_with_len, Prelude.option_to_list}

-- the ranks of a set that come before a place
abbrev pub ranks_before : List ℕ → ℕ → List ℕ
ranks_before ranks r = filter (has_rank ranks) (range_with_len 0 r)

ranks_more : (ranks : List ℕ) (rank : ℕ) → ranks_before ranks (rank + 1)
    ≡ ranks_before ranks rank ++ cond (has_rank ranks rank) (rank ∷ []) []
ranks_more ranks rank =
    simp map-id at (filter_of_map_range_with_len_more (has_rank ranks) (λ r. r) 0 rank rank
    (omega arith))

-- what one rank adds: its symbol, if it is held and has one
abbrev symbol_text : List Token → Bool → ℕ → Text
symbol_text settings has rank = cond has (option_to_list (symbol_of settings rank)) []

one_symbol : (settings : List Token) (rank : ℕ) (has : Bool)
    → symbols_of settings (cond has (rank ∷ []) []) ≡ symbol_text settings has rank
one_symbol settings rank has = grind arith

symbols_more : (settings : List Token) (ranks : List ℕ) (rank : ℕ)
    → symbols_of settings (ranks_before ranks (rank + 1))
    ≡ symbols_of settings (ranks_before ranks rank)
    ++ symbol_text settings (has_rank ranks rank) rank
symbols_more settings ranks rank = rw (ranks_more ranks rank, filter_map-append, one_symbol)

-- one rank further
pub rank_passed : (settings : List Token) (ranks : List ℕ) (rank : ℕ) (has : Bool)
    (symbol : Option ℕ) (before now : List ℕ) → has ≡ has_rank ranks rank → symbol
    ≡ symbol_of settings rank → now ≡ before ++ symbols_of settings (ranks_before ranks rank)
    → now ++ cond has (option_to_list symbol) []
    ≡ before ++ symbols_of settings (ranks_before ranks (rank + 1))
rank_passed settings ranks rank has symbol before now held shown is =
    rw (held, shown, is, symbols_more settings ranks rank, append_assoc)

-- all ranks
pub ranks_all : (ranks : List ℕ) (rank : ℕ) → rank ≡ 16 → ranks ≡ ranks_that (has_rank ranks)
    → ranks_before ranks rank ≡ ranks
unfolding ranks_that rank_count
ranks_all ranks rank last set = rw last (sym set)
