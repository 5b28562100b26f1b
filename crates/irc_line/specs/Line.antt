-- A line by its parts (RFC 2812, section 2.3.1; tags: IRCv3 message-tags).
use Rattle.std.specs.Prelude.{ℕ, Bool, ◌||◌, ◌&&◌, not, ◌==◌, List, length, Option, take, unwrap_or}
use Rattle.std.specs.Prelude.{position}
use Rattle.std.specs.List.{list_all}
use Rattle.std.specs.Char.{is_ascii_alphabetic, is_ascii_digit}
use Rattle.std.specs.Str.{str_eq_ignore_ascii_case}

-- A line is these parts, wherever they lie in memory. Tags, source and parameters are without their
-- marks; commands are in the letters in which they came.
pub record Parts : Type 0 where
  pub tags : Option (List ℕ)
  pub source : Option (List ℕ)
  pub command : List ℕ
  pub params : List (List ℕ)

abbrev pub is_space : ℕ → Bool
is_space b = b == 32

-- the bytes that a line may have: all but NUL, CR and LF (RFC 2812, section 2.3.1: nospcrlfcl)
abbrev pub is_line_byte : ℕ → Bool
is_line_byte b = not (b == 0 || b == 10 || b == 13)

-- command = 1*letter / 3digit (RFC 2812, section 2.3.1)
abbrev pub is_command : List ℕ → Bool
is_command text =
    (not (length text == 0) && list_all is_ascii_alphabetic text)
    || (length text == 3 && list_all is_ascii_digit text)

-- the nick of a source: the text before its first `!`, else before its first `@`, else all of it
-- (RFC 2812, section 2.3.1: prefix)
abbrev pub nick_of : List ℕ → List ℕ
nick_of source =
    take (unwrap_or (position (λ b. b == 33) source)
    (unwrap_or (position (λ b. b == 64) source) (length source))) source

-- whether the line has this command, in letters of either case (that case does not count is our own
-- choice)
abbrev pub has_command : Parts → List ℕ → Bool
has_command line command = str_eq_ignore_ascii_case line.command command
