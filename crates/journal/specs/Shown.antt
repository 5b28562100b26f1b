-- Messages as text for people and their tools. The form is our own choice.
use Rattle.std.specs.Prelude.{◌+◌, ◌-◌, ◌/◌, ◌%◌, ◌++◌, ◌||◌, ◌==◌, ℕ, Bool, List, [], ◌∷◌, codes}
use Rattle.std.specs.Prelude.{if◌then◌else◌, nat_lt}
use Rattle.std.specs.List.{flat_map}
use Rattle.history.specs.Entry.{EntryParts}
use Rattle.history.specs.Messages.{Messages}

abbrev pub hex_digit : ℕ → ℕ
hex_digit n = if nat_lt n 10 then 48 + n else 97 + (n - 10)

-- a control byte of ASCII
abbrev pub is_control : ℕ → Bool
is_control b = nat_lt b 32 || b == 127

-- `\x` and two digits for a control byte
abbrev pub shown : ℕ → List ℕ
shown b =
    if is_control b then codes "\\x" ++ hex_digit (b / 16) ∷ hex_digit (b % 16) ∷ [] else b ∷ []

abbrev pub shown_all : List ℕ → List ℕ
shown_all text = flat_map shown text

-- a text and the byte that ends it
abbrev pub part : List ℕ → ℕ → List ℕ
part text end = shown_all text ++ end ∷ []

-- when, where, who and what
abbrev pub line_of : EntryParts → List ℕ
line_of e = part e.time 32 ++ (part e.target 32 ++ (part e.source 32 ++ part e.text 10))

-- the messages in their order, each on a line
abbrev pub text_of_messages : Messages → List ℕ
text_of_messages h = flat_map (λ m. line_of m.1) h.kept
