-- What a network said last, and why it ends a connection or refuses a login.
use Rattle.std.specs.Prelude.{ℕ, Bool, List, [], ◌∷◌, ◌++◌, ◌-◌, ◌==◌, ◌||◌, Option, None, Some}
use Rattle.std.specs.Prelude.{codes, drop, if◌then◌else◌, length, option_and_then, slice_get}
use Rattle.circular_buffer.specs.Buffer.{Buffer, buffer, keep_last}
use Rattle.irc_line.specs.Line.{Parts, has_command}
use Rattle.irc_line.specs.Lines.{lines_of}
use Rattle.sasl.specs.Login.{is_failure}
use Rattle.sasl.specs.Said.{last_param}
use Rattle.shell.specs.declared.recalling.About.{About}
use Rattle.shell.specs.declared.recalling.About.TheVariants as About

-- the text of a line, if it is an ERROR (RFC 2812, section 3.7.4)
abbrev pub error_text : Parts → Option (List ℕ)
error_text line = if has_command line (codes "ERROR") then slice_get line.params 0 else None

-- the text of the last of these lines, if it is an ERROR
abbrev pub last_error : List Parts → Option (List ℕ)
last_error lines = option_and_then error_text (slice_get lines (length lines - 1))

-- a line that refuses us, the login to our account, or a nick (RFC 2812, section 5.2)
abbrev pub refuses : About → Parts → Bool
refuses About.Entry line = has_command line (codes "463") || has_command line (codes "465")
refuses About.Account line = is_failure line
refuses About.Nick line =
    has_command line (codes "432") || has_command line (codes "433")
    || has_command line (codes "437")

-- the last parameter of the last of these lines that refuses this; else what was found before them
abbrev pub refusal_after : About → Option (List ℕ) → List Parts → Option (List ℕ)
refusal_after about found [] = found
refusal_after about found (line ∷ lines) =
    refusal_after about (if refuses about line then Some (last_param line) else found) lines

-- The lines among the last bytes of a stream. If they fill the room that there is for them, their
-- first line may have lost its beginning, and does not count.
abbrev pub whole_lines : ℕ → List ℕ → List Parts
whole_lines room bytes =
    if length bytes == room then drop 1 (lines_of bytes) else lines_of bytes

-- what is kept of a stream after more of it: the last bytes that there is room for
abbrev pub and_then : Buffer ℕ → List ℕ → Buffer ℕ
and_then kept bytes = buffer (keep_last kept.capacity (kept.items ++ bytes)) kept.capacity

-- the last words of a connection, by what is kept of it: the text of an ERROR at its end
abbrev pub parting : Buffer ℕ → Option (List ℕ)
parting kept = last_error (whole_lines kept.capacity kept.items)

-- what refuses this, by what is kept
abbrev pub refusal_of : About → Buffer ℕ → Option (List ℕ)
refusal_of about kept = refusal_after about None (whole_lines kept.capacity kept.items)

-- why we are not let in, by what is kept
abbrev pub no_entry : Buffer ℕ → Option (List ℕ)
no_entry kept = refusal_of About.Entry kept

-- why we are not logged in to our account, by what is kept
abbrev pub no_login : Buffer ℕ → Option (List ℕ)
no_login kept = refusal_of About.Account kept

-- why we don't get a nick, by what is kept
abbrev pub no_nick : Buffer ℕ → Option (List ℕ)
no_nick kept = refusal_of About.Nick kept
