-- The text of a line, and which parts have one (RFC 2812, section 2.3.1).
use Rattle.std.specs.Prelude.{ℕ, Bool, true, false, ◌&&◌, not, ◌==◌, List, [], ◌∷◌, ◌++◌, Option}
use Rattle.std.specs.Prelude.{Some, None, if◌then◌else◌, length}
use Rattle.std.specs.List.{list_any, list_all, flat_map}
use Rattle.irc_line.specs.Line.{Parts, is_space, is_line_byte, is_command}

-- a middle: not empty, no colon at its front, no space
abbrev pub is_word : List ℕ → Bool
is_word [] = false
is_word (b ∷ bs) = not (b == 58) && not (list_any is_space (b ∷ bs))

-- a parameter after a space, with a colon if it is no word
abbrev pub param_text : List ℕ → List ℕ
param_text param = 32 ∷ (if is_word param then param else 58 ∷ param)

-- tags or a source after its mark, and a space
abbrev pub marked_text : ℕ → Option (List ℕ) → List ℕ
marked_text mark None = []
marked_text mark (Some part) = mark ∷ (part ++ 32 ∷ [])

-- the text that a line is written as, without its ending
abbrev pub text_of : Parts → List ℕ
text_of line =
    marked_text 64 line.tags
    ++ (marked_text 58 line.source ++ (line.command ++ flat_map param_text line.params))

-- the same with CR LF
abbrev pub written : Parts → List ℕ
written line = text_of line ++ (13 ∷ 10 ∷ [])

-- lines one after the other
abbrev pub bytes_of : List Parts → List ℕ
bytes_of lines = flat_map written lines

-- neither NUL nor CR nor LF
abbrev pub is_clean : List ℕ → Bool
is_clean text = list_all is_line_byte text

abbrev pub is_token : List ℕ → Bool
is_token part = not (length part == 0) && not (list_any is_space part)

-- what tags and a source can be
abbrev pub is_part : Option (List ℕ) → Bool
is_part None = true
is_part (Some part) = is_token part && is_clean part

-- what parameters can be: all but the last are words
abbrev pub are_params : List (List ℕ) → Bool
are_params [] = true
are_params (param ∷ []) = is_clean param
are_params (param ∷ next ∷ params) = (is_word param && is_clean param) && are_params (next ∷ params)

-- whether the parts are those of a line: whether some text spells them (a law, `what_is_written`)
abbrev pub is_writable : Parts → Bool
is_writable line =
    is_part line.tags
    && (is_part line.source && (is_command line.command && are_params line.params))

-- a line of these parts
abbrev pub line_of_parts : Option (List ℕ) → Option (List ℕ) → List ℕ → List (List ℕ) → Parts
line_of_parts tags source command params =
    record { tags = tags; source = source; command = command; params = params }

-- a line without tags
abbrev pub untagged_line : Option (List ℕ) → List ℕ → List (List ℕ) → Parts
untagged_line source command params = line_of_parts None source command params

-- a line with other tags
abbrev pub retagged : Parts → Option (List ℕ) → Parts
retagged line tags = record line { tags = tags }
