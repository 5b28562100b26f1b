-- How tokens, modes and members are written, and which of these can be: what is written is read
-- back.
use Rattle.std.specs.Prelude.{⊤, ◌≡◌, ℕ, Bool, true, false, ◌&&◌, ◌||◌, not, ◌==◌, IsTrue, List, []}
use Rattle.std.specs.Prelude.{◌∷◌, ◌++◌, map, take, Option, Some, None, is_some}
use Rattle.std.specs.List.{AllByRecursion, list_any, filter_map, join_with_byte}
use Rattle.std.specs.Str.{bytes_eq}
use Rattle.irc_names.specs.Nick.{is_nameable}
use Rattle.irc_support.specs.Text.{Text, has_byte}
use Rattle.irc_support.specs.Tokens.{Token}
use Rattle.irc_support.specs.Ranks.{ranks_that, has_rank}
use Rattle.irc_support.specs.Ranking.{symbol_of}
use Rattle.irc_support.specs.ChanModes.{kind_of, takes_parameter}
use Rattle.irc_support.specs.ModeChanges.{ChangeParts}
use Rattle.irc_support.specs.NamesReply.{Word, words_between, split_word}

-- ---- tokens (005 RPL_ISUPPORT; isupport draft, section 2)

-- whether this can be a token's name: it is not empty, begins with no minus and holds no equals
-- sign
abbrev pub is_token_name : Text → Bool
is_token_name [] = false
is_token_name (b ∷ text) = not (b == 45) && not (has_byte (b ∷ text) 61)

-- each token has such a name, and no two have the same
abbrev pub AreTokens : List Token → Type 0
AreTokens [] = ⊤
AreTokens (t ∷ settings) =
    IsTrue (is_token_name t.0) × (list_any (λ (u : Token). bytes_eq t.0 u.0) settings ≡ false) ×
    AreTokens settings

-- a token as it came: its name, and after `=` its value, if it has one
abbrev pub token_text : Token → Text
token_text (name, None) = name
token_text (name, Some value) = name ++ 61 ∷ value

-- ---- modes (324 RPL_CHANNELMODEIS; RFC 2812, section 5.1)

abbrev pub is_sign : ℕ → Bool
is_sign b = b == 43 || b == 45

-- a letter and its parameter: the letter is no sign, and it has a parameter exactly if its kind
-- takes one
abbrev pub IsWrittenMode : List Token → ℕ × Option Text → Type 0
IsWrittenMode settings m =
    (is_sign m.0 ≡ false) × (is_some m.1 ≡ takes_parameter (kind_of settings m.0) true)

-- the letters of modes after a plus, and their parameters
abbrev pub mode_params : List (ℕ × Option Text) → List Text
mode_params modes =
    (43 ∷ map (λ (m : ℕ × Option Text). m.0) modes)
    ∷ filter_map (λ (m : ℕ × Option Text). m.1) modes

-- the change that sets a mode
abbrev pub set_change : ℕ × Option Text → ChangeParts
set_change m = record { plus = true; letter = m.0; param = m.1 }

-- ---- members (353 RPL_NAMREPLY; RFC 2812, section 5.1)

-- the symbols of some ranks
abbrev pub symbols_of : List Token → List ℕ → Text
symbols_of settings ranks = filter_map (symbol_of settings) ranks

abbrev pub HasSymbol : List Token → ℕ → Type 0
HasSymbol settings rank = (symbol : ℕ) × (symbol_of settings rank ≡ Some symbol)

-- a member whose nick is nameable, and whose ranks are a set of ranks with symbols
pub record IsWrittenWord (settings : List Token) (member : Word) : Type 0 where
  pub nameable : IsTrue (is_nameable member.nick)
  pub symbols : AllByRecursion (HasSymbol settings) member.ranks
  pub set : ranks_that (has_rank member.ranks) ≡ member.ranks

-- a member as a word: the symbols of its ranks, and its nick (IRCv3 multi-prefix)
abbrev pub word_text : List Token → Word → Text
word_text settings member = symbols_of settings member.ranks ++ member.nick

-- a member with its highest rank alone
abbrev pub highest_member : Word → Word
highest_member member = record member { ranks = take 1 member.ranks }

-- a word taken apart, put together with the highest of its symbols alone
abbrev pub highest_text : List Token → List ℕ × Text → Text
highest_text settings w = symbols_of settings (take 1 w.0) ++ w.1

abbrev pub with_highest : List Token → Text → Text
with_highest settings word = highest_text settings (split_word settings word)

-- the words of a name list, each so, with one space between them
abbrev pub names_with_highest : List Token → Text → Text
names_with_highest settings text =
    join_with_byte 32 (map (with_highest settings) (words_between text))
