-- The AWAY of our clients: what they asked for, and what the network answered (RFC 2812, section 4.1).
use Rattle.std.specs.Prelude.{List, [], ◌∷◌, slice_get, codes, if◌then◌else◌}
use Rattle.std.specs.Option.{option_and_then, option_map, option_or}
use Rattle.std.specs.Prelude.{Vec}
use Rattle.std.specs.declared.alloc.Global.{Global}
use Rattle.std.proofs.Common.{Option, Some, None, ℕ}
use Rattle.irc_line.specs.Line.{Parts, has_command}
use Rattle.irc_support.specs.Text.{Text}
use Rattle.net_view.specs.Arrival.{Arrival, Received, Lost}
use Rattle.hub_core.specs.declared.away.Away.{Away}

-- the text of the last AWAY that was forwarded, if no answer came since; and the text by which we are
-- away, which outlives a connection
pub record AwayState : Type 0 where
  pub asked : Option Text
  pub text : Option Text

-- nobody said AWAY
abbrev pub not_away : AwayState
not_away = record { asked = None; text = None }

-- a text, unless it is empty
abbrev pub unless_empty : Text → Option Text
unless_empty [] = None
unless_empty (letter ∷ more) = Some (letter ∷ more)

-- the text of an AWAY; none if it says that we are back
abbrev pub away_text : Parts → Option Text
away_text line = option_and_then unless_empty (slice_get line.params 0)

-- after a line was forwarded
abbrev pub away_said : Parts → AwayState → AwayState
away_said line a = if has_command line (codes "AWAY") then record a { asked = away_text line } else a

-- After an item: 306 RPL_NOWAWAY grants what was asked for last, and 305 RPL_UNAWAY forgets the text by
-- which we were away. An answer that has not come before a loss does not come.
abbrev pub away_heard : Arrival → AwayState → AwayState
away_heard Lost a = record a { asked = None }
away_heard (Received line) a =
    if has_command line (codes "306")
    then record { asked = None; text = option_or a.asked a.text } else
    if has_command line (codes "305") then record a { text = None } else a

-- what is kept of a text
abbrev pub kept_text : Option (Vec ℕ Global) → Option Text
kept_text text = option_map (λ (text : Vec ℕ Global). text.items) text

-- what contracts see of it
abbrev pub away_of : Away → AwayState
away_of a = record { asked = kept_text a.asked; text = kept_text a.text }
