-- When two names are one name (RFC 2812, section 2.2; CASEMAPPING of the isupport draft, section
-- 3.1).
use Rattle.std.specs.Prelude.{◌≡◌, ℕ, ◌==◌, List, [], ◌∷◌, map, if◌then◌else◌, codes}
use Rattle.std.specs.Char.{to_ascii_lowercase}
use Rattle.irc_names.specs.declared.case_mapping.CaseMapping.{CaseMapping}
use Rattle.irc_names.specs.declared.case_mapping.CaseMapping.TheVariants.{Ascii, Rfc1459, Strict}

-- the upper case letters that a mapping has beside A to Z (RFC 2812, section 2.2)
abbrev pub upper_row : CaseMapping → List ℕ
upper_row Ascii = []
upper_row Rfc1459 = codes "[]\\~"
upper_row Strict = codes "[]\\"

-- the lower case of each, at the same place
abbrev pub lower_row : List ℕ
lower_row = codes "{}|^"

-- the byte of the lower row below this byte, if this byte is in the upper row; else the byte
abbrev pub below : List ℕ → List ℕ → ℕ → ℕ
below [] lower b = b
below (u ∷ upper) [] b = b
below (u ∷ upper) (l ∷ lower) b = if b == u then l else below upper lower b

-- the byte that represents this byte in a key
abbrev pub key_byte : CaseMapping → ℕ → ℕ
key_byte mapping b = below (upper_row mapping) lower_row (to_ascii_lowercase b)

-- what a name is compared by: two names are one name if their keys are equal
abbrev pub key_of : CaseMapping → List ℕ → List ℕ
key_of mapping name = map (key_byte mapping) name

-- the two are one name
abbrev pub AreOneName : CaseMapping → List ℕ → List ℕ → Type 0
AreOneName mapping a b = key_of mapping a ≡ key_of mapping b
