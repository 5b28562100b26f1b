-- Messages ask for nothing that outlives a connection.
use Rattle.hub_core.proofs.Words.{◌∙◌, ◌≡◌, Bool, Parts, Text, View, arith, false, is_message, refl, true}
use Rattle.hub_core.specs.Wishes.{WishesState, wishes_said}
use Rattle.irc_line.specs.Line.{has_command}
use Rattle.net_view.proofs.Commands.{has_command-named}
use Rattle.std.specs.{Prelude.codes, Str.str_eq_ignore_ascii_case}

-- a line of one of two commands has no third one
neither : (line : Parts) (name : Text) (p n : Bool) → has_command line (codes "PRIVMSG") ≡ p
    → has_command line (codes "NOTICE") ≡ n → is_message line ≡ true
    → str_eq_ignore_ascii_case (codes "PRIVMSG") name ≡ false
    → str_eq_ignore_ascii_case (codes "NOTICE") name ≡ false → has_command line name ≡ false
neither line name true n e f message first second = has_command-named line (codes "PRIVMSG") e name ∙ first
neither line name false true e f message first second = has_command-named line (codes "NOTICE") f name ∙ second
neither line name false false e f message first second = grind (arith, e, f, message)

pub asks_nothing : (v : View) (line : Parts) (w : WishesState) → is_message line ≡ true
    → wishes_said v line w ≡ w
asks_nothing v line w e =
    rw (
      neither line (codes "NICK") _ _ refl refl e refl refl,
      neither line (codes "JOIN") _ _ refl refl e refl refl,
      neither line (codes "AWAY") _ _ refl refl e refl refl,
    ) refl
