-- Which state line a line is: a line has one of the commands only.
use Rattle.net_view.{proofs.Words.◌∷◌, specs.StateLines.{told_by_join, told_by_names, told_by_part}}
use Rattle.net_view.{proofs.Words.{◌≡◌, ℕ}, specs.StateCommands.{is_state_command, other_commands}}
use Rattle.net_view.proofs.Words.{IfSome, Received, Silent, Token, is_some, list_any, state_lines}
use Rattle.net_view.proofs.Words.{List, Some, Text, Told, [], arith, codes, cond, false, told, true}
use Rattle.net_view.proofs.Words.{Parts, bytes_eq-Decides, state_commands, str_eq_ignore_ascii_case}
use Rattle.net_view.proofs.Words.{StateCommand, StateLine, command_text, has_command, state_command}
use Rattle.net_view.specs.StateLines.{is_state_line, told_by_account, told_by_away, told_by_welcome}
use Rattle.{net_view.specs.StateLines.told_by_end_of_motd, std.specs.Char.to_ascii_lowercase}
use Rattle.net_view.specs.StateLines.{told_by_isupport, told_by_mode_reply, told_by_topic_reply}
use Rattle.std.{proofs.{Common.get_or, Math.ListN.get_or-map}, specs.Str.str_to_ascii_lowercase}

-- a line of a command has each other exactly if the two are one except for the case of letters
pub has_command-named : (line : Parts) (name : Text) → has_command line name ≡ true → (other : Text)
    → has_command line other ≡ str_eq_ignore_ascii_case name other
has_command-named line name e other = grind (arith, bytes_eq-Decides)

-- a line has the command that it was read to have
pub has_found : (line : Parts)
    → IfSome (state_command line) (λ it. has_command line (command_text it) ≡ true)
unfolding state_commands
has_found line = grind arith

-- a state line is one that has such a command
pub is_read : (line : Parts) → is_some (state_command line) ≡ is_state_line line
unfolding state_commands state_lines
is_read line = grind arith

-- ---- which commands are none of the seventeen

-- whether it is a state line, by any spelling of its command
pub is_state_by_name : (line : Parts) (name : Text) → has_command line name ≡ true
    → is_state_line line ≡ is_state_command name
unfolding state_lines state_commands
is_state_by_name line name e = simp (has_command-named line name e)

not_among : (names : List Text) → list_any is_state_command names ≡ false → (line : Parts)
    → list_any (has_command line) names ≡ true → is_state_line line ≡ false
not_among [] h line e = cc
not_among (name ∷ names) h line e = grind (arith, is_state_by_name line, not_among names)

pub no_state_line : (line : Parts) → list_any (has_command line) other_commands ≡ true
    → is_state_line line ≡ false
unfolding state_commands
no_state_line line e = search (arith, not_among)

module _ (settings : List Token) (line : Parts) where
  -- what a line of this command says
  abbrev told_as : List StateLine → Text → Told
  told_as [] name = Silent
  told_as (s ∷ lines) name =
      cond (str_eq_ignore_ascii_case name s.command) (s.tells settings line) (told_as lines name)

  -- what is no state line says nothing
  pub told-unread : is_state_line line ≡ false → told settings (Received line) ≡ Silent
  unfolding told state_lines
  told-unread e = grind arith

  -- what a line says that was read to have this command
  pub told_read : (it : StateCommand) → state_command line ≡ Some it
      → told settings (Received line) ≡ told_as state_lines (command_text it)
  unfolding told state_lines
  told_read it e = simp (has_command-named line (command_text it) (grind (arith, has_found line)))

  -- what a line of each command says
  abbrev Tells : Text → (List Token → Parts → Told) → Type 0
  Tells name tells =
      has_command line name ≡ true → told settings (Received line) ≡ tells settings line

  pub told_of_welcome : Tells (codes "001") told_by_welcome
  unfolding told state_lines
  told_of_welcome e = simp (has_command-named line (codes "001") e)

  pub told_of_isupport : Tells (codes "005") told_by_isupport
  unfolding told state_lines
  told_of_isupport e = simp (has_command-named line (codes "005") e)

  pub told_of_no_motd : Tells (codes "422") told_by_end_of_motd
  unfolding told state_lines
  told_of_no_motd e = simp (has_command-named line (codes "422") e)

  pub told_of_join : Tells (codes "JOIN") told_by_join
  unfolding told state_lines
  told_of_join e = simp (has_command-named line (codes "JOIN") e)

  pub told_of_part : Tells (codes "PART") told_by_part
  unfolding told state_lines
  told_of_part e = simp (has_command-named line (codes "PART") e)

  pub told_of_mode_reply : Tells (codes "324") told_by_mode_reply
  unfolding told state_lines
  told_of_mode_reply e = simp (has_command-named line (codes "324") e)

  pub told_of_topic_reply : Tells (codes "332") told_by_topic_reply
  unfolding told state_lines
  told_of_topic_reply e = simp (has_command-named line (codes "332") e)

  pub told_of_names : Tells (codes "353") told_by_names
  unfolding told state_lines
  told_of_names e = simp (has_command-named line (codes "353") e)

  pub told_of_account : Tells (codes "ACCOUNT") told_by_account
  unfolding told state_lines
  told_of_account e = simp (has_command-named line (codes "ACCOUNT") e)

  pub told_of_away : Tells (codes "AWAY") told_by_away
  unfolding told state_lines
  told_of_away e = simp (has_command-named line (codes "AWAY") e)

-- ---- a command is known by its length, its first byte and its last one

pub same_byte : (a b : Text) → str_eq_ignore_ascii_case a b ≡ true → (i byte : ℕ)
    → byte ≡ get_or a i byte
    → to_ascii_lowercase byte ≡ get_or (str_to_ascii_lowercase b) i (to_ascii_lowercase byte)
same_byte a b e i byte h = grind (arith, get_or-map to_ascii_lowercase a i byte, bytes_eq-Decides)

-- a line that has one of them is read to have one
pub is_there : (line : Parts) (it : StateCommand) → has_command line (command_text it) ≡ true
    → is_some (state_command line) ≡ true
unfolding state_commands
is_there line it h = grind arith
