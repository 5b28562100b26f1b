-- Name lists: the words of RPL_NAMREPLY, 353 (RFC 2812, section 5.1), as IRCv3 multi-prefix has
-- them: all symbols of a member come before the nick.
use Rattle.std.specs.Prelude.{ℕ, Bool, false, not, ◌==◌, List, length, map, filter, take_while}
use Rattle.std.specs.Prelude.{drop, is_some}
use Rattle.std.specs.List.{list_any, slice_split}
use Rattle.std.specs.Option.{option_map_or}
use Rattle.irc_support.specs.Text.{Text, cut_at}
use Rattle.irc_support.specs.Tokens.{Token}
use Rattle.irc_support.specs.Ranking.{rank_of_symbol}
use Rattle.irc_support.specs.Ranks.{ranks_that}

-- a member of a name list: the ranks whose symbols come before the nick, highest first, and the
-- nick
pub record Word : Type 0 where
  pub ranks : List ℕ
  pub nick : Text

-- the texts between spaces
abbrev pub words_between : Text → List Text
words_between text =
    filter (λ (word : Text). not (length word == 0)) (slice_split (λ b. b == 32) text)

abbrev pub is_rank_symbol : List Token → ℕ → Bool
is_rank_symbol settings b = is_some (rank_of_symbol settings b)

-- the symbols at the front of a word, and what follows them
abbrev pub symbols_before : List Token → Text → Text
symbols_before settings word = take_while (is_rank_symbol settings) word

abbrev pub after_symbols : List Token → Text → Text
after_symbols settings word = drop (length (symbols_before settings word)) word

-- whether one of these symbols shows the rank
abbrev pub shows_rank : List Token → Text → ℕ → Bool
shows_rank settings symbols rank =
    list_any (λ b. option_map_or (λ r. r == rank) (rank_of_symbol settings b) false) symbols

-- a word taken apart: the ranks whose symbols are at its front, highest first, and what follows
-- these
abbrev pub split_word : List Token → Text → List ℕ × Text
split_word settings word =
    (ranks_that (shows_rank settings (symbols_before settings word)), after_symbols settings word)

-- the words of the last parameter of a 353, taken apart
unfoldable pub split_words : List Token → Text → List (List ℕ × Text)
split_words settings text = map (split_word settings) (words_between text)

-- the member that such a word names; a nick ends before its first `!`, if the word has user and
-- host
abbrev pub member_of : List ℕ × Text → Word
member_of w = record { ranks = w.0; nick = (cut_at 33 w.1).0 }

abbrev pub word_of : List Token → Text → Word
word_of settings word = member_of (split_word settings word)

-- the members that the last parameter of a 353 names
unfoldable pub words : List Token → Text → List Word
words settings text = map (word_of settings) (words_between text)
