-- Which lines may be sent once a network has taken us in. The commands that none of these lines
-- has, and the limit, are our own choice.
use Rattle.std.specs.Prelude.{ℕ, Bool, ◌&&◌, ◌||◌, ◌==◌, not, nat_le, List, [], ◌∷◌, length, codes}
use Rattle.std.specs.Prelude.{if◌then◌else◌, position, take, unwrap_or}
use Rattle.std.specs.List.{list_any, list_all}
use Rattle.std.specs.Char.{is_ascii_alphabetic, is_ascii_digit}
use Rattle.std.specs.Str.{str_eq_ignore_ascii_case}

-- a text without the spaces at its front
abbrev pub unindented : List ℕ → List ℕ
unindented [] = []
unindented (b ∷ bs) = if b == 32 then unindented bs else b ∷ bs

-- the text before the first space
abbrev pub first_word : List ℕ → List ℕ
first_word text = take (unwrap_or (position (λ b. b == 32) text) (length text)) text

-- the command of a line without tags and source
abbrev pub command_in : List ℕ → List ℕ
command_in text = first_word (unindented text)

-- command = 1*letter / 3digit (RFC 2812, section 2.3.1)
abbrev pub is_command : List ℕ → Bool
is_command text =
    (not (length text == 0) && list_all is_ascii_alphabetic text)
    || (length text == 3 && list_all is_ascii_digit text)

-- what a registration sends, what ends a connection, and what the settings have keys for
abbrev pub barred_commands : List (List ℕ)
barred_commands =
    codes "NICK" ∷ codes "USER" ∷ codes "PASS" ∷ codes "CAP" ∷ codes "QUIT"
    ∷ codes "AUTHENTICATE" ∷ codes "JOIN" ∷ []

-- letters of either case are one
abbrev pub is_barred : List ℕ → Bool
is_barred command = list_any (str_eq_ignore_ascii_case command) barred_commands

-- NUL, LF and CR, which no line holds (RFC 2812, section 2.3.1)
abbrev pub ends_line : ℕ → Bool
ends_line b = b == 0 || b == 10 || b == 13

-- a line of at most 400 bytes, without tags and source, of a command that is not barred: a first
-- byte `@` or `:` is of no command; spaces may come at the front
abbrev pub is_sent_at_connect : List ℕ → Bool
is_sent_at_connect text =
    nat_le (length text) 400 && (not (list_any ends_line text)
    && (is_command (command_in text) && not (is_barred (command_in text))))
