-- The time tag of a line (IRCv3 message-tags: tags are separated by `;`, a value comes after `=`;
-- IRCv3 server-time: `@time=YYYY-MM-DDThh:mm:ss.sssZ`).
use Rattle.std.specs.Prelude.{ℕ, Bool, true, false, ◌&&◌, ◌==◌, nat_eq, List, [], ◌∷◌, Option, Some}
use Rattle.std.specs.Prelude.{None, not, length, drop, find, codes, if◌then◌else◌}
use Rattle.std.specs.Option.{option_and_then, option_map}
use Rattle.std.specs.List.{slice_split, starts_with}
use Rattle.std.specs.Char.{is_ascii_digit}
use Rattle.irc_line.specs.Line.{Parts, is_line_byte, is_space}

-- what a tag's value is made of: no space, nor what no line holds
abbrev pub is_tag_byte : ℕ → Bool
is_tag_byte b = is_line_byte b && not (is_space b)

abbrev pub tags_in : List ℕ → List (List ℕ)
tags_in tags = slice_split (λ b. b == 59) tags

-- the value of the first tag that begins like this
abbrev pub value_behind : List ℕ → List ℕ → Option (List ℕ)
value_behind front tags =
    option_map (λ tag. drop (length front) tag)
    (find (λ tag. starts_with nat_eq tag front) (tags_in tags))

-- whether the byte may be where a form has this one: `d` (100) stands for a digit, any other for
-- itself
abbrev pub fits_form : ℕ → ℕ → Bool
fits_form b form = if form == 100 then is_ascii_digit b else b == form

-- whether the text fits the form, byte by byte
abbrev pub has_form : List ℕ → List ℕ → Bool
has_form [] [] = true
has_form [] (b ∷ text) = false
has_form (f ∷ form) [] = false
has_form (f ∷ form) (b ∷ text) = fits_form b f && has_form form text

-- the form of a time; that its numbers name a moment is not asked (our own choice)
abbrev pub time_form : List ℕ
time_form = codes "dddd-dd-ddTdd:dd:dd.dddZ"

abbrev pub time_value : List ℕ → Option (List ℕ)
time_value value = if has_form time_form value then Some value else None

-- the value of the first `time=` among the line's tags, if it has the form of a time
abbrev pub time_of : Parts → Option (List ℕ)
time_of line =
    option_and_then (λ tags. option_and_then time_value (value_behind (codes "time=") tags))
    line.tags
