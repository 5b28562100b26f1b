-- A name list with the highest symbols alone lists the same nicks, with their highest ranks alone.
use Rattle.irc_support.proofs.{RankPlaces.few, RankSets.{first_of_set, has_rank-ranks_that, itself}}
use Rattle.{irc_support.proofs.RankPlaces.ranking_of-is, std.proofs.lemmas.Bool.Decides.nat_tests}
use Rattle.irc_support.proofs.{SpelledWords.{IsPlain, symbols_all, words_plain}, WordCuts.is_gap}
use Rattle.irc_support.proofs.SpelledWords.{symbol_written, word_of_symbols, words_joined}
use Rattle.{irc_support.proofs.Spelling.paired, std.specs.List.{AllByRecursion, list_all, list_any}}
use Rattle.irc_support.specs.{NamesReply.{after_symbols, is_rank_symbol, symbols_before}, Text.Text}
use Rattle.irc_support.specs.{NamesReply.{shows_rank, word_of, words, words_between}, Tokens.Token}
use Rattle.irc_support.specs.{Ranking.{is_symbol, rank_of_symbol, ranking_of}, Written.with_highest}
use Rattle.{irc_support.specs.Ranks.{has_rank, ranks_that}, std.proofs.Common.{Option, arith, refl}}
use Rattle.irc_support.specs.Written.{HasSymbol, highest_member, names_with_highest, symbols_of}
use Rattle.std.proofs.{Common.None, lemmas.List.{Folds.list_any-append, Quantifiers.position-Some}}
use Rattle.std.proofs.{Common.{Some, get_or}, lemmas.List.{Recursion.and_at, Sums.take_while-cons}}
use Rattle.std.specs.Prelude.{◌&&◌, ◌++◌, ◌<◌, ◌==◌, ◌∷◌, ◌≡◌, [], map, suc, true, zero, ℕ}
use Rattle.std.specs.Prelude.{Bool, List, drop, false, filter, is_some, length, take, take_while}

-- ---- what is a symbol of a rank

-- a rank's symbol is of the form that symbols have
pub symbol_formed : (settings : List Token) (b rank : ℕ) → rank_of_symbol settings b ≡ Some rank →
    is_symbol b ≡ true
symbol_formed settings b rank e =
    let r = ranking_of settings in
    let at = position-Some (λ c. c == b) r.symbols rank 0 e in
    let all = fifth (length r.letters == length r.symbols) _ _ _ (list_all is_symbol r.symbols) _
    (ranking_of-is settings) in
    let is : get_or r.symbols rank 0 ≡ b = grind (arith, nat_tests) in
    rw is at
    (and_at (list_all is_symbol) is_symbol refl (λ _ _. refl) r.symbols rank 0 at.0 all)
  where
    fifth : (a c d f g h : Bool) → (a && c && d && f && g && h) ≡ true → g ≡ true
    fifth a c d f g h e = grind arith

-- and is no space
no_gap : (settings : List Token) (b : ℕ) → is_rank_symbol settings b ≡ true → is_gap b ≡ false
no_gap settings b h = grind (arith, nat_tests, symbol_formed settings b)

pub no_gaps : (settings : List Token) (s : Text) → list_all (is_rank_symbol settings) s ≡ true →
    list_any is_gap s ≡ false
no_gaps settings [] h = refl
no_gaps settings (b ∷ s) h = grind (arith, no_gap settings b, no_gaps settings s)

-- ---- a word's ranks have symbols

shown_symbol : (settings : List Token) (symbols : Text) (rank : ℕ) →
    shows_rank settings symbols rank ≡ true → HasSymbol settings rank
shown_symbol settings [] rank h = cc
shown_symbol settings (b ∷ symbols) rank h =
    grind (arith, nat_tests, symbol_written settings rank b, shown_symbol settings symbols rank)

filtered : (p : ℕ → Bool) (P : ℕ → Type 0) (xs : List ℕ) → ((r : ℕ) → p r ≡ true → P r) →
    AllByRecursion P (filter p xs)
filtered p P [] h = tt
filtered p P (x ∷ xs) h = grind (arith, h x, filtered p P xs h)

first_each : (P : ℕ → Type 0) (xs : List ℕ) → AllByRecursion P xs → AllByRecursion P (take 1 xs)
first_each P xs h = grind arith

pub ranks_have_symbols : (settings : List Token) (symbols : Text) →
    AllByRecursion (HasSymbol settings) (ranks_that (shows_rank settings symbols))
unfolding ranks_that
ranks_have_symbols settings symbols =
    filtered (shows_rank settings symbols) (HasSymbol settings) _ (shown_symbol settings symbols)

top_symbol : (settings : List Token) (w : Text) →
    AllByRecursion (HasSymbol settings) (take 1 (word_of settings w).ranks)
top_symbol settings w =
    first_each (HasSymbol settings) _ (ranks_have_symbols settings (symbols_before settings w))

-- ---- the word with its highest symbol alone

-- after its symbols a word has none at its front
after_past : (p : ℕ → Bool) (w : Text) → take_while p (drop (length (take_while p w)) w) ≡ []
after_past p [] = refl
after_past p (b ∷ w) = grind (arith, take_while-cons, after_past p w)

drop_whole : (n : ℕ) (w : Text) → list_any is_gap w ≡ false → list_any is_gap (drop n w) ≡ false
drop_whole zero w e = e
drop_whole (suc n) [] e = refl
drop_whole (suc n) (b ∷ w) e = grind (arith, drop_whole n w)

pub highest_read : (settings : List Token) (w : Text) →
    word_of settings (with_highest settings w)
    ≡ record {
      ranks = ranks_that (has_rank (take 1 (word_of settings w).ranks));
      nick = (word_of settings w).nick;
    }
highest_read settings w =
    word_of_symbols settings _ (after_symbols settings w) (top_symbol settings w)
    (after_past (is_rank_symbol settings) w)

highest_listed : (settings : List Token) (w : Text) →
    word_of settings (with_highest settings w) ≡ highest_member (word_of settings w)
highest_listed settings w =
    let shown = shows_rank settings (symbols_before settings w) in
    rw (first_of_set (word_of settings w).ranks shown refl) at (highest_read settings w)

-- ---- it is a plain word

small_rank : (settings : List Token) (b rank : ℕ) → rank_of_symbol settings b ≡ Some rank →
    rank < 16
small_rank settings b rank e =
    let r = ranking_of settings in
    let within = (position-Some (λ c. c == b) r.symbols rank 0 e).0 in
    let few_letters = (few r (ranking_of-is settings)).0 in
    let same = paired r (ranking_of-is settings) in
    omega arith

-- if no rank is shown the word has no symbols
pub unranked : (settings : List Token) (w : Text) → (word_of settings w).ranks ≡ [] →
    after_symbols settings w ≡ w
unranked settings [] h = refl
unranked settings (b ∷ w) h =
    let none_here = none (rank_of_symbol settings b) refl in
    rw (take_while-cons (is_rank_symbol settings) b w, none_here) refl
  where
    none : (o : Option ℕ) → rank_of_symbol settings b ≡ o → is_some o ≡ false
    none None is = refl
    none (Some rank) is =
        let shown = shows_rank settings (b ∷ symbols_before settings w) in
        let front = take_while-cons (is_rank_symbol settings) b w in
        let empty : ranks_that shown ≡ [] = rw (front, is) at h in
        let here = has_rank-ranks_that shown rank (small_rank settings b rank is) in
        let clash = rw (empty, is, itself rank) at here in cc

one_symbol : (settings : List Token) (ranks : List ℕ) (rest w : Text) →
    AllByRecursion (HasSymbol settings) (take 1 ranks) → (ranks ≡ [] → rest ≡ w) →
    (length w == 0) ≡ false → (length (symbols_of settings (take 1 ranks) ++ rest) == 0) ≡ false
one_symbol settings [] rest w each h e = rw (h refl) e
one_symbol settings (r ∷ ranks) rest w each h e = rw each.0.1 (grind (arith, nat_tests))

pub highest_plain : (settings : List Token) (w : Text) → IsPlain w →
    IsPlain (with_highest settings w)
highest_plain settings w p = record {
  some =
      one_symbol settings _ (after_symbols settings w) w (top_symbol settings w)
      (unranked settings w) p.some;
  whole =
      let top = take 1 (word_of settings w).ranks in
      let rest = drop_whole (length (symbols_before settings w)) w p.whole in
      grind (arith, list_any-append, no_gaps settings _ (symbols_all settings top));
}

-- ---- the name list

each_highest : (settings : List Token) (ws : List Text) → AllByRecursion IsPlain ws →
    AllByRecursion IsPlain (map (with_highest settings) ws)
each_highest settings [] each = tt
each_highest settings (w ∷ ws) each =
    (highest_plain settings w each.0, each_highest settings ws each.1)

-- what the words list
listed_highest : (settings : List Token) (ws : List Text) →
    map (word_of settings) (map (with_highest settings) ws)
    ≡ map highest_member (map (word_of settings) ws)
listed_highest settings [] = refl
listed_highest settings (w ∷ ws) = rw (highest_listed settings w, listed_highest settings ws)

pub words_highest : (settings : List Token) (text : Text) →
    words settings (names_with_highest settings text) ≡ map highest_member (words settings text)
unfolding words
words_highest settings text =
    rw (words_joined _ (each_highest settings (words_between text) (words_plain text)))
    (listed_highest settings (words_between text))
