-- The ranks that members of a channel can hold (`PREFIX`; isupport draft, section 3.14). Ranks are
-- counted from 0, the highest.
use Rattle.std.specs.Prelude.{◌≡◌, ℕ, ◌-◌, ◌+◌, ◌/◌, Bool, ◌&&◌, not, ◌==◌, nat_le, if◌then◌else◌}
use Rattle.std.specs.Prelude.{IsTrue, List, [], ◌∷◌, ◌++◌, length, take, drop, position, slice_get}
use Rattle.std.specs.Prelude.{Option, Some, None, unwrap_or, codes}
use Rattle.std.specs.List.{list_all}
use Rattle.std.specs.Char.{is_ascii_alphabetic, is_ascii_punctuation}
use Rattle.std.specs.Str.{bytes_eq}
use Rattle.irc_support.specs.Text.{Text, has_byte, is_distinct}
use Rattle.irc_support.specs.Tokens.{Token, value_of}

-- Letters and symbols by rank. MODE gives a rank by its letter; RPL_NAMREPLY shows it by its
-- symbol.
pub record Ranking : Type 0 where
  pub letters : Text
  pub symbols : Text

-- what a symbol can be: ASCII punctuation that no nick begins with and that parts nothing in a line
-- or a list (our own choice)
abbrev pub is_symbol : ℕ → Bool
is_symbol b = is_ascii_punctuation b && not (has_byte (codes "[]\\`_^{|}:,") b)

-- one symbol a letter, at most 16, no symbol twice
abbrev pub is_ranking : Ranking → Bool
is_ranking r =
    length r.letters == length r.symbols && nat_le (length r.letters) 16
    && list_all is_ascii_alphabetic r.letters && is_distinct r.letters
    && list_all is_symbol r.symbols && is_distinct r.symbols

-- how a value of PREFIX is written: `(letters)symbols`
abbrev pub prefix_text : Ranking → Text
prefix_text r = codes "(" ++ r.letters ++ codes ")" ++ r.symbols

-- the value spells these ranks
pub record Spells (value : Text) (r : Ranking) : Type 0 where
  pub written : value ≡ prefix_text r
  pub ranking : IsTrue (is_ranking r)

-- The only ranks that a value can spell. With one symbol a letter, half of the value except `(`
-- and `)` is letters, the other half symbols.
abbrev pub halves_of : Text → Ranking
halves_of value = record {
  letters = take ((length value - 2) / 2) (drop 1 value);
  symbols = drop ((length value - 2) / 2 + 2) value;
}

-- the ranks that a value spells, if it spells some
unfoldable pub spelled_by : Text → Option Ranking
spelled_by value =
    if bytes_eq value (prefix_text (halves_of value)) && is_ranking (halves_of value)
    then Some (halves_of value)
    else None

-- an empty value means that there are no ranks; what spells none counts as the default (our own
-- choice)
abbrev pub ranking_in : Text → Ranking
ranking_in [] = record { letters = []; symbols = [] }
ranking_in (b ∷ value) =
    unwrap_or (spelled_by (b ∷ value)) (record { letters = codes "ov"; symbols = codes "@+" })

-- the ranks under these settings; without the token they are `(ov)@+`
unfoldable pub ranking_of : List Token → Ranking
ranking_of settings = ranking_in (unwrap_or (value_of settings (codes "PREFIX")) (codes "(ov)@+"))

-- the rank that a letter gives, the rank that a symbol shows, and the symbol of a rank
abbrev pub rank_of_letter : List Token → ℕ → Option ℕ
rank_of_letter settings letter = position (λ b. b == letter) (ranking_of settings).letters

abbrev pub rank_of_symbol : List Token → ℕ → Option ℕ
rank_of_symbol settings symbol = position (λ b. b == symbol) (ranking_of settings).symbols

abbrev pub symbol_of : List Token → ℕ → Option ℕ
symbol_of settings rank = slice_get (ranking_of settings).symbols rank
