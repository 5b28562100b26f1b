-- Members that are written out in name lists are read back as they are.
use Rattle.irc_names.specs.Nick.{begins_nick, is_nameable, is_one_of, is_outside_nick}
use Rattle.irc_support.proofs.{HighestWords.{no_gaps, symbol_formed}, SpelledWords.IsPast}
use Rattle.irc_support.proofs.SpelledWords.{IsPlain, symbols_all, word_of_symbols, words_joined}
use Rattle.irc_support.{proofs.TokensRead.uncut, specs.NamesReply.{Word, is_rank_symbol, word_of}}
use Rattle.irc_support.specs.{NamesReply.words, Ranking.{is_symbol, rank_of_symbol}, Ranks.has_rank}
use Rattle.irc_support.specs.{Ranks.ranks_that, Text.{Text, has_byte}, Tokens.Token}
use Rattle.irc_support.specs.Written.{HasSymbol, IsWrittenWord, symbols_of, word_text}
use Rattle.std.proofs.{Common.{Option, Some, arith, length-append, refl}, lemmas.Bool.and_parts}
use Rattle.std.proofs.lemmas.{Bool.{not-true, Decides.nat_tests}, List.Folds.list_any-append}
use Rattle.std.{proofs.lemmas.List.Sums.take_while-cons, specs.Char.is_ascii_alphanumeric}
use Rattle.std.specs.{Char.is_ascii_punctuation, List.{AllByRecursion, join_with_byte, list_any}}
use Rattle.std.specs.Prelude.{◌&&◌, ◌++◌, ◌==◌, ◌||◌, ◌∷◌, ◌≡◌, Bool, List, [], codes, false}
use Rattle.std.specs.Prelude.{is_some, length, map, nat_le, not, true, ℕ}

-- ---- a nick begins with no symbol

of_letters : (b : ℕ) → is_ascii_alphanumeric b ≡ true → is_ascii_punctuation b ≡ false
of_letters b h = grind (arith, nat_tests)

beyond : (b : ℕ) → nat_le 128 b ≡ true → is_ascii_punctuation b ≡ false
beyond b h = grind (arith, nat_tests)

special : (b : ℕ) → is_one_of (codes "[]\\`_^{|}") b ≡ true →
    has_byte (codes "[]\\`_^{|}:,") b ≡ true
special b h = grind (arith, nat_tests)

no_symbol : (b : ℕ) → begins_nick b ≡ true → is_symbol b ≡ false
no_symbol b h =
    one_of (is_ascii_alphanumeric b) (is_one_of (codes "[]\\`_^{|}") b) (nat_le 128 b) _ _ h
    (of_letters b) (beyond b) (special b)
  where
    one_of : (letter mark far punctuation other : Bool) → (letter || mark || far) ≡ true →
        (letter ≡ true → punctuation ≡ false) → (far ≡ true → punctuation ≡ false) →
        (mark ≡ true → other ≡ true) → (punctuation && not other) ≡ false
    one_of letter mark far punctuation other h l f m = grind arith

none_formed : (o : Option ℕ) (b : Bool) → ((rank : ℕ) → o ≡ Some rank → b ≡ true) → b ≡ false →
    is_some o ≡ false
none_formed o b formed none = grind arith

no_rank_symbol : (settings : List Token) (b : ℕ) → begins_nick b ≡ true →
    is_rank_symbol settings b ≡ false
no_rank_symbol settings b h =
    none_formed (rank_of_symbol settings b) (is_symbol b) (symbol_formed settings b) (no_symbol b h)

nick_past : (settings : List Token) (nick : Text) → is_nameable nick ≡ true → IsPast settings nick
nick_past settings [] h = refl
nick_past settings (b ∷ nick) h =
    let here = take_while-cons (is_rank_symbol settings) b nick in
    rw (here, no_rank_symbol settings b (and_parts (begins_nick b) _ h).0)

-- ---- a nick is a plain word with nothing to cut off

-- a byte that no nick holds is not in it
never_in : (p : ℕ → Bool) (k : ℕ) → p k ≡ true → (text : Text) → list_any p text ≡ false →
    has_byte text k ≡ false
never_in p k out [] h = refl
never_in p k out (b ∷ text) h = grind (arith, nat_tests, never_in p k out text)

never_in_nick : (k : ℕ) → is_outside_nick k ≡ true → (nick : Text) → is_nameable nick ≡ true →
    has_byte nick k ≡ false
never_in_nick k out [] h = refl
never_in_nick k out (b ∷ nick) h =
    never_in is_outside_nick k out (b ∷ nick) (not-true _ (and_parts (begins_nick b) _ h).1)

nick_some : (s nick : Text) → is_nameable nick ≡ true → (length (s ++ nick) == 0) ≡ false
nick_some s [] h = cc
nick_some s (b ∷ nick) h = let len = length-append s (b ∷ nick) in grind (arith, nat_tests)

-- ---- a member as a word

-- symbols of ranks and a nick, as they are read
pub word_read : (settings : List Token) (ranks : List ℕ) (nick : Text) → is_nameable nick ≡ true →
    AllByRecursion (HasSymbol settings) ranks →
    word_of settings (symbols_of settings ranks ++ nick)
    ≡ record { ranks = ranks_that (has_rank ranks); nick = nick }
word_read settings ranks nick ok each =
    rw (word_of_symbols settings ranks nick each (nick_past settings nick ok))
    (rw (uncut 33 nick (never_in_nick 33 refl nick ok)))

-- and it is a plain word
pub word_plain : (settings : List Token) (ranks : List ℕ) (nick : Text) → is_nameable nick ≡ true →
    IsPlain (symbols_of settings ranks ++ nick)
word_plain settings ranks nick ok = record {
  some = nick_some (symbols_of settings ranks) nick ok;
  whole =
      let clean = no_gaps settings _ (symbols_all settings ranks) in
      grind (arith, list_any-append, never_in_nick 32 refl nick ok);
}

members_plain : (settings : List Token) (members : List Word) →
    AllByRecursion (IsWrittenWord settings) members →
    AllByRecursion IsPlain (map (word_text settings) members)
members_plain settings [] each = tt
members_plain settings (m ∷ members) each =
    (word_plain settings m.ranks m.nick each.0.nameable, members_plain settings members each.1)

each_read : (settings : List Token) (members : List Word) →
    AllByRecursion (IsWrittenWord settings) members →
    map (word_of settings) (map (word_text settings) members) ≡ members
each_read settings [] each = refl
each_read settings (m ∷ members) each =
    rw (word_read settings m.ranks m.nick each.0.nameable each.0.symbols, each.0.set)
    (rw (each_read settings members each.1))

-- members that are written with spaces between are read back
pub members_read : (settings : List Token) (members : List Word) →
    AllByRecursion (IsWrittenWord settings) members →
    words settings (join_with_byte 32 (map (word_text settings) members)) ≡ members
unfolding words
members_read settings members each =
    rw (words_joined _ (members_plain settings members each)) (each_read settings members each)
