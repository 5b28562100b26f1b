-- Texts as they are in a line: bytes, compared byte for byte.
use Rattle.std.specs.Prelude.{ℕ, Bool, true, false, ◌+◌, ◌&&◌, not, ◌==◌, List, [], ◌∷◌, drop}
use Rattle.std.specs.Prelude.{position, Option, option_map}
use Rattle.std.specs.List.{list_any, before_first}

abbrev pub Text : Type 0
Text = List ℕ

-- whether the text has the byte
abbrev pub has_byte : Text → ℕ → Bool
has_byte text b = list_any (λ c. c == b) text

-- whether no byte is in the text twice
abbrev pub is_distinct : Text → Bool
is_distinct [] = true
is_distinct (b ∷ text) = not (has_byte text b) && is_distinct text

-- a text cut at the first such byte: the text before it, and, if there is such a byte, the text
-- after it
abbrev pub cut_at : ℕ → Text → Text × Option Text
cut_at b text = (
  before_first (λ c. c == b) text,
  option_map (λ place. drop (place + 1) text) (position (λ c. c == b) text),
)

-- a word: not empty, it does not begin with a colon and holds no space (RFC 2812, section 2.3.1,
-- 'middle')
unfoldable pub is_word : Text → Bool
is_word [] = false
is_word (b ∷ text) = not (b == 58) && not (has_byte (b ∷ text) 32)
