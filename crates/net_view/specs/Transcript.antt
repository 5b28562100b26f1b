-- Where a transcript leaves us: our own nick, whether we are ready, and the settings in force. In
-- the files of looking back a list of items has the newest first, so what follows an item in the
-- list is what came before it.
use Rattle.std.specs.Prelude.{Bool, false, ◌&&◌, not, List, [], ◌∷◌, is_some, if◌then◌else◌}
use Rattle.std.proofs.Common.{Option, Some, None}
use Rattle.irc_support.specs.Tokens.{Token, set_tokens}
use Rattle.irc_support.specs.Settings.{key_by}
use Rattle.irc_support.specs.Text.{Text}
use Rattle.net_view.specs.Names.{same}
use Rattle.net_view.specs.Told.{Told, Welcomed, Supports, Settles, Joined, Renamed}
use Rattle.net_view.specs.Arrival.{Arrival}
use Rattle.net_view.specs.StateLines.{told}

-- our own nick, if we were welcomed; whether we are ready; the settings in force
pub record Standing : Type 0 where
  pub own : Option Text
  pub ready : Bool
  pub settings : List Token

-- whether a key is that of our own nick
abbrev pub is_us : Standing → Text → Bool
is_us s key = elim s.own [ None ↦ false | Some nick ↦ same (key_by s.settings nick) key ]

-- our nick is that of the last welcome, or the new one of the last NICK after it that was ours
abbrev pub own_after : Told → Standing → Option Text
own_after (Welcomed nick) s = Some nick
own_after (Renamed old new) s = if is_us s old then Some new.spelled else s.own
own_after _ s = s.own

-- ready: the settings were fixed after the last welcome, by 376, 422 or a JOIN (our own choice)
abbrev pub ready_after : Told → Standing → Bool
ready_after (Welcomed nick) s = false
ready_after Settles s = is_some s.own
ready_after (Joined channel valid who account) s = is_some s.own
ready_after _ s = s.ready

-- the tokens of the 005 lines after the last welcome and before the settings were fixed (isupport
-- draft, section 2; when they are fixed is our own choice)
abbrev pub settings_after : Told → Standing → List Token
settings_after (Welcomed nick) s = []
settings_after (Supports params) s =
    if is_some s.own && not s.ready then set_tokens s.settings params else s.settings
settings_after _ s = s.settings

-- where what an item says leaves us
abbrev pub standing_after : Told → Standing → Standing
standing_after t s =
    record { own = own_after t s; ready = ready_after t s; settings = settings_after t s }

-- each line is read by the settings in force before it
abbrev pub standing_with : Arrival → Standing → Standing
standing_with x s = standing_after (told s.settings x) s

-- where the items leave us
abbrev pub standing : List Arrival → Standing
standing [] = record { own = None; ready = false; settings = [] }
standing (x ∷ older) = standing_with x (standing older)

-- our own nick; none before the first welcome
abbrev pub own_nick : List Arrival → Option Text
own_nick items = (standing items).own

-- whether the settings were fixed since the last welcome
abbrev pub is_ready : List Arrival → Bool
is_ready items = (standing items).ready

-- the settings in force
abbrev pub settings_of : List Arrival → List Token
settings_of items = (standing items).settings

-- an item as it is read: our standing before it, and what it says
pub record Reading : Type 0 where
  pub before : Standing
  pub told : Told

-- an item, read with this standing
abbrev pub reading_of : Arrival → Standing → Reading
reading_of x s = record { before = s; told = told s.settings x }

-- the readings of a list of items
abbrev pub readings_of : List Arrival → List Reading
readings_of [] = []
readings_of (x ∷ older) = reading_of x (standing older) ∷ readings_of older

-- whether a key was that of our own nick before the item
abbrev pub ours : Reading → Text → Bool
ours x = is_us x.before
