-- Names, and what they are compared by (RFC 2812, section 2.2).
use Rattle.std.specs.Prelude.{Bool, List, if◌then◌else◌}
use Rattle.std.specs.declared.cmp.Ordering.{Ordering}
use Rattle.std.specs.Ordering.{eq_by_cmp, nat_cmp}
use Rattle.std.specs.Cmp.Lexicographic.{slice_cmp}
use Rattle.std.proofs.Common.{Option, Some, None}
use Rattle.irc_names.specs.Nick.{is_nameable}
use Rattle.irc_support.specs.Text.{Text}
use Rattle.irc_support.specs.Tokens.{Token}
use Rattle.irc_support.specs.Settings.{key_by}

-- the order in which channels and members are shown: that of their keys, byte by byte
abbrev pub bytes_cmp : Text → Text → Ordering
bytes_cmp = slice_cmp nat_cmp

-- whether two keys are one
abbrev pub same : Text → Text → Bool
same a b = eq_by_cmp bytes_cmp a b

-- a name as it was spelled, with its key
pub record Name : Type 0 where
  pub key : Text
  pub spelled : Text

-- a name, with its key under the settings
abbrev pub name_of : List Token → Text → Name
name_of settings spelled = record { key = key_by settings spelled; spelled = spelled }

-- a nick, if it is nameable
abbrev pub nameable : List Token → Text → Option Name
nameable settings nick = if is_nameable nick then Some (name_of settings nick) else None
