-- Words of name lists: joined they are read as they are, and symbols and nick are read apart.
use Rattle.irc_support.proofs.RankPlaces.{at-position, few, position-at, ranking_of-is}
use Rattle.irc_support.proofs.{RankSets.ranks_that_agree, WordCuts.{is_gap, is_some_word}}
use Rattle.irc_support.specs.NamesReply.{after_symbols, is_rank_symbol, symbols_before}
use Rattle.irc_support.specs.{NamesReply.{shows_rank, word_of, words_between}, Ranks.ranks_that}
use Rattle.irc_support.specs.{Ranking.{rank_of_symbol, ranking_of, symbol_of}, Ranks.has_rank}
use Rattle.irc_support.specs.{Text.{Text, cut_at}, Tokens.Token, Written.{HasSymbol, symbols_of}}
use Rattle.std.{proofs.Common.{Some, refl}, specs.Prelude.{◌++◌, ◌==◌, ◌∷◌, ◌≡◌, [], true, ℕ}}
use Rattle.std.proofs.{Common.arith, Math.Seq.drop-append_seam, lemmas.List.Sums.take_while-cons}
use Rattle.std.specs.{List.AllByRecursion, Prelude.{Bool, List, false, filter, length, take_while}}
use Rattle.std.specs.List.{join_with_byte, list_all, list_any, onto_first, slice_split}

-- ---- words

-- a word that stands for itself among spaces
pub record IsPlain (w : Text) : Type 0 where
  pub some : (length w == 0) ≡ false
  pub whole : list_any is_gap w ≡ false

split_whole : (w : Text) → list_any is_gap w ≡ false → slice_split is_gap w ≡ w ∷ []
split_whole [] whole = refl
split_whole (b ∷ w) whole = grind (arith, split_whole w)

split_behind : (w rest : Text) → list_any is_gap w ≡ false →
    slice_split is_gap (w ++ 32 ∷ rest) ≡ w ∷ slice_split is_gap rest
split_behind [] rest whole = refl
split_behind (b ∷ w) rest whole = grind (arith, split_behind w rest)

pub words_of_plain : (w : Text) → IsPlain w → words_between w ≡ w ∷ []
words_of_plain w p = rw (split_whole w p.whole, p.some)

pub words_joined : (ws : List Text) → AllByRecursion IsPlain ws →
    words_between (join_with_byte 32 ws) ≡ ws
words_joined [] each = refl
words_joined (w ∷ []) each = words_of_plain w each.0
words_joined (w ∷ x ∷ ws) each =
    let rest = join_with_byte 32 (x ∷ ws) in
    rw (split_behind w rest each.0.whole, each.0.some, words_joined (x ∷ ws) each.1)

-- ---- the words of a text are plain

abbrev IsWhole : Text → Type 0
IsWhole w = list_any is_gap w ≡ false

onto_whole : (b : ℕ) (ws : List Text) → is_gap b ≡ false → AllByRecursion IsWhole ws →
    AllByRecursion IsWhole (onto_first b ws)
onto_whole b ws e each = grind arith

split_wholes : (text : Text) → AllByRecursion IsWhole (slice_split is_gap text)
split_wholes [] = (refl, tt)
split_wholes (b ∷ text) = grind (arith, onto_whole, split_wholes text)

filled : (ws : List Text) → AllByRecursion IsWhole ws →
    AllByRecursion IsPlain (filter is_some_word ws)
filled [] each = tt
filled (w ∷ ws) each = grind (arith, filled ws)

pub words_plain : (text : Text) → AllByRecursion IsPlain (words_between text)
words_plain text = filled (slice_split is_gap text) (split_wholes text)

-- ---- symbols at the front

-- the text begins with no symbol of a rank
abbrev pub IsPast : List Token → Text → Type 0
IsPast settings text = symbols_before settings text ≡ []

take_run : (p : ℕ → Bool) (s a : Text) → list_all p s ≡ true → take_while p a ≡ [] →
    take_while p (s ++ a) ≡ s
take_run p [] a all stops = stops
take_run p (b ∷ s) a all stops = grind (arith, take_while-cons, take_run p s a)

pub symbols_read : (settings : List Token) (s a : Text) →
    list_all (is_rank_symbol settings) s ≡ true → IsPast settings a →
    symbols_before settings (s ++ a) ≡ s
symbols_read settings s a all past = take_run (is_rank_symbol settings) s a all past

pub rest_read : (settings : List Token) (s a : Text) → list_all (is_rank_symbol settings) s ≡ true →
    IsPast settings a → after_symbols settings (s ++ a) ≡ a
rest_read settings s a all past = rw (symbols_read settings s a all past) (drop-append_seam s a)

-- ---- the symbols of ranks

pub symbol_read : (settings : List Token) (rank symbol : ℕ) →
    symbol_of settings rank ≡ Some symbol → rank_of_symbol settings symbol ≡ Some rank
symbol_read settings rank symbol e =
    position-at (ranking_of settings).symbols rank symbol
    (few (ranking_of settings) (ranking_of-is settings)).1 e

pub symbol_written : (settings : List Token) (rank symbol : ℕ) →
    rank_of_symbol settings symbol ≡ Some rank → symbol_of settings rank ≡ Some symbol
symbol_written settings rank symbol e = at-position (ranking_of settings).symbols rank symbol e

pub symbols_all : (settings : List Token) (ranks : List ℕ) →
    list_all (is_rank_symbol settings) (symbols_of settings ranks) ≡ true
symbols_all settings [] = refl
symbols_all settings (r ∷ ranks) = grind (arith, symbol_read settings r, symbols_all settings ranks)

pub symbols_show : (settings : List Token) (ranks : List ℕ) →
    AllByRecursion (HasSymbol settings) ranks → (rank : ℕ) →
    shows_rank settings (symbols_of settings ranks) rank ≡ has_rank ranks rank
symbols_show settings [] each rank = refl
symbols_show settings (r ∷ ranks) each rank =
    rw (each.0.1, symbol_read settings r each.0.0 each.0.1, symbols_show settings ranks each.1 rank)

-- a word of symbols of ranks and more is read as these
pub word_of_symbols : (settings : List Token) (ranks : List ℕ) (rest : Text) →
    AllByRecursion (HasSymbol settings) ranks → IsPast settings rest →
    word_of settings (symbols_of settings ranks ++ rest)
    ≡ record { ranks = ranks_that (has_rank ranks); nick = (cut_at 33 rest).0 }
word_of_symbols settings ranks rest each past =
    let all = symbols_all settings ranks in
    let symbols = symbols_of settings ranks in
    rw (rest_read settings symbols rest all past, symbols_read settings symbols rest all past)
    (rw (ranks_that_agree _ (has_rank ranks) (λ r small. symbols_show settings ranks each r)))
