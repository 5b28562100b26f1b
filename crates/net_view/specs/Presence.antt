-- The channels that we are on (RFC 2812, sections 3.2.1, 3.2.2, 3.2.8 and 3.1.7).
use Rattle.std.specs.Prelude.{Bool, true, false, ◌&&◌, List, is_some, if◌then◌else◌}
use Rattle.std.specs.Option.{option_map, unwrap_or}
use Rattle.std.proofs.Common.{Option, Some, None}
use Rattle.irc_support.specs.Text.{Text}
use Rattle.net_view.specs.Names.{same}
use Rattle.net_view.specs.Told.{Told, Welcomed, Joined, Parted, Kicked, Quits, Disconnected}
use Rattle.net_view.specs.Transcript.{Reading}
use Rattle.net_view.specs.LookBack.{last}

-- our own JOIN of the channel of this key, with the name as it is spelled there: from it on we are
-- on the channel. The name has to be a channel's
abbrev pub begins : (Text → Bool) → Told → Text → Option Text
begins us (Joined channel valid who account) c =
    if us who.key && valid && same c channel.key then Some channel.spelled else None
begins us _ c = None

-- whether the item takes us off the channel
abbrev pub ends : (Text → Bool) → Told → Text → Bool
ends us (Parted channel who) c = us who && same c channel
ends us (Kicked channel who) c = us who && same c channel
ends us (Quits who) c = us who
ends us (Welcomed nick) c = true
ends us Disconnected c = true
ends us _ c = false

-- Some None: we are off it; Some of its name: we are on it
abbrev pub says_on : Text → (Text → Bool) → Told → Option (Option Text)
says_on c us t = if ends us t c then Some None else option_map Some (begins us t c)

-- the name of the channel, as spelled in our own last JOIN, if we are on it
abbrev pub name_on : List Reading → Text → Option Text
name_on items c = unwrap_or (last (says_on c) items) None

-- whether we are on the channel
abbrev pub is_on : List Reading → Text → Bool
is_on items c = is_some (name_on items c)

-- what an item says of a matter of a channel: at our own JOIN it is as fresh, and so nothing counts
-- that was said before that JOIN
abbrev pub anew_or : {A : Type 0} → Text → (Text → Bool) → Told → A → Option A → Option A
anew_or c us t fresh said = if is_some (begins us t c) then Some fresh else said
