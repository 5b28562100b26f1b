-- The topic of a channel (RFC 2812, section 3.2.4).
use Rattle.std.specs.Prelude.{Bool, List, if◌then◌else◌}
use Rattle.std.specs.Option.{unwrap_or}
use Rattle.std.proofs.Common.{Option, Some, None}
use Rattle.irc_support.specs.Text.{Text}
use Rattle.net_view.specs.Names.{same}
use Rattle.net_view.specs.Told.{Told, Titled}
use Rattle.net_view.specs.Transcript.{Reading}
use Rattle.net_view.specs.LookBack.{last}
use Rattle.net_view.specs.Presence.{anew_or}

-- TOPIC, 332 and 331 of the channel say its topic, or that it has none
abbrev pub said_of_topic : Text → Told → Option (Option Text)
said_of_topic c (Titled channel text) = if same c channel then Some text else None
said_of_topic c _ = None

-- at our own JOIN there is none
abbrev pub says_topic : Text → (Text → Bool) → Told → Option (Option Text)
says_topic c us t = anew_or c us t None (said_of_topic c t)

-- what the last TOPIC, 332 or 331 of the channel says since our own JOIN; none if there was none
abbrev pub topic_of : List Reading → Text → Option Text
topic_of items c = unwrap_or (last (says_topic c) items) None
