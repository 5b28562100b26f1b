-- The symbols at the front of a word, one by one.
use Rattle.irc_support.proofs.RankSets.{has_rank-ranks_that, ranks_that_agree}
use Rattle.irc_support.specs.NamesReply.{after_symbols, is_rank_symbol, shows_rank, symbols_before}
use Rattle.irc_support.specs.{Ranking.rank_of_symbol, Ranks.{has_rank, ranks_that}, Text.Text}
use Rattle.{irc_support.specs.Tokens.Token, std.proofs.Common.{List, Some, [], append_assoc, arith}}
use Rattle.std.proofs.Common.{drop, get_or, length, refl, take, ℕ, ◌++◌, ◌-◌, ◌<◌, ◌==◌, ◌||◌, ◌∙◌}
use Rattle.std.proofs.{Common.{◌∷◌, ◌≡◌}, lemmas.Bool.Decides.nat_tests}
use Rattle.std.proofs.lemmas.List.{Folds.list_any-append, Sums.take_while-cons, take_all}

-- symbols were read, and this is left of the word
abbrev pub ReadsSome : List Token → Text → List ℕ → Text → Type 0
ReadsSome settings word ranks rest = (read : Text) ×
    (symbols_before settings word ≡ read ++ symbols_before settings rest) ×
    (after_symbols settings word ≡ after_symbols settings rest) ×
    (ranks ≡ ranks_that (shows_rank settings read))

shows_rank-push : (settings : List Token) (read : Text) (b rank r : ℕ) →
    rank_of_symbol settings b ≡ Some rank →
    ((r == rank) || shows_rank settings read r) ≡ shows_rank settings (read ++ b ∷ []) r
shows_rank-push settings read b rank r found =
    rw (list_any-append, found) (grind (arith, nat_tests))

pub reads_more : (settings : List Token) (word : Text) (ranks : List ℕ) (rest : Text) (b : ℕ)
    (more : Text) (rank : ℕ) (ranks' : List ℕ) → rest ≡ b ∷ more →
    rank_of_symbol settings b ≡ Some rank →
    ranks' ≡ ranks_that (λ r. (r == rank) || has_rank ranks r) →
    ReadsSome settings word ranks rest → ReadsSome settings word ranks' more
reads_more settings word ranks rest b more rank ranks' is found put (read, before, after, shown) =
    let front = take_while-cons (is_rank_symbol settings) b more in (
      read ++ b ∷ [],
      before ∙ rw (is, front, found, append_assoc) refl,
      after ∙ rw (is, front, found) refl,
      put ∙ ranks_that_agree _ _
          (λ r small. rw (shown, has_rank-ranks_that (shows_rank settings read) r small)
          (shows_rank-push settings read b rank r found)),
    )

-- a text by its first byte
pub uncons : (text : Text) (d : ℕ) → 0 < length text →
    text ≡ get_or text 0 d ∷ take (length text - 1) (drop 1 text)
uncons [] d some = absurd (omega arith)
uncons (b ∷ text) d some = grind (arith, take_all)
