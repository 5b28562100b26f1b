-- The network view: what a transcript says of a network.
use Rattle.std.specs.Prelude.{ℕ, Bool, false, List, [], reverse, if◌then◌else◌}
use Rattle.std.specs.Option.{option_map}
use Rattle.std.specs.Ordering.{nat_cmp}
use Rattle.std.specs.FinMap.{FinMap, empty}
use Rattle.std.proofs.Common.{Option, Some, None}
use Rattle.irc_support.specs.Tokens.{Token}
use Rattle.irc_support.specs.Ranks.{ranks_that}
use Rattle.irc_support.specs.Text.{Text}
use Rattle.net_view.specs.Names.{bytes_cmp}
use Rattle.net_view.specs.Arrival.{Arrival}
use Rattle.net_view.specs.Transcript.{Reading, own_nick, is_ready, settings_of, readings_of}
use Rattle.net_view.specs.Presence.{name_on}
use Rattle.net_view.specs.Topic.{topic_of}
use Rattle.net_view.specs.Modes.{mode_of}
use Rattle.net_view.specs.Members.{is_member, rank_decided}
use Rattle.net_view.specs.Named.{named, channels_in, letters_in, people_in}
use Rattle.net_view.specs.Facts.{in_sight, spelling_of, account_of, away_of}
use Rattle.net_view.specs.Table.{table}

-- A channel that we are on: its name, topic, modes by letter with their parameters, and by each
-- member's key the ranks held there, the highest first.
pub record Channel : Type 0 where
  pub name : Text
  pub topic : Option Text
  pub modes : FinMap nat_cmp (Option Text)
  pub members : FinMap bytes_cmp (List ℕ)

-- what is known of a person in sight
pub record Person : Type 0 where
  pub spelled : Option Text
  pub account : Option Text
  pub away : Option Text

-- our own nick, whether we are ready, the settings in force; channels and persons by key
pub record View : Type 0 where
  pub own : Option Text
  pub ready : Bool
  pub settings : List Token
  pub channels : FinMap bytes_cmp Channel
  pub people : FinMap bytes_cmp Person

-- the view of a network that has not taken us in
abbrev pub empty_view : View
empty_view = record { own = None; ready = false; settings = []; channels = empty; people = empty }

-- the view of a network that has just taken us in
abbrev pub welcomed_view : Text → View
welcomed_view nick =
    record { own = Some nick; ready = false; settings = []; channels = empty; people = empty }

-- what a loss leaves: we are on no channel and know nobody; own nick and settings stay
abbrev pub lost_view : View → View
lost_view v =
    record { own = v.own; ready = v.ready; settings = v.settings; channels = empty; people = empty }

-- ---- by looking back

-- the ranks of a member
abbrev pub member_of : List Reading → Text → Text → Option (List ℕ)
member_of items c n =
    if is_member items c n then Some (ranks_that (rank_decided items c n)) else None

-- the modes that are on, by letter
abbrev pub modes_of : List Reading → Text → FinMap nat_cmp (Option Text)
modes_of items c = table nat_cmp (named letters_in items) (mode_of items c)

-- the members with their ranks, by key
abbrev pub members_of : List Reading → Text → FinMap bytes_cmp (List ℕ)
members_of items c = table bytes_cmp (named people_in items) (member_of items c)

-- what is found of a channel, by this name
abbrev pub channel_named : List Reading → Text → Text → Channel
channel_named items c name = record {
  name = name;
  topic = topic_of items c;
  modes = modes_of items c;
  members = members_of items c;
}

-- the channel of this key, if we are on it
abbrev pub channel_of : List Reading → Text → Option Channel
channel_of items c = option_map (channel_named items c) (name_on items c)

-- the channels that we are on, by key
abbrev pub channels_of : List Reading → FinMap bytes_cmp Channel
channels_of items = table bytes_cmp (named channels_in items) (channel_of items)

-- what is found of a person
abbrev pub known_of : List Reading → Text → Person
known_of items n = record {
  spelled = spelling_of items n;
  account = account_of items n;
  away = away_of items n;
}

-- the person of this key, if in sight
abbrev pub person_of : List Reading → Text → Option Person
person_of items n = if in_sight items n then Some (known_of items n) else None

-- the persons in sight, by key
abbrev pub people_of : List Reading → FinMap bytes_cmp Person
people_of items = table bytes_cmp (named people_in items) (person_of items)

-- the view of the items, the newest first
abbrev pub view_back : List Arrival → View
view_back items = record {
  own = own_nick items;
  ready = is_ready items;
  settings = settings_of items;
  channels = channels_of (readings_of items);
  people = people_of (readings_of items);
}

-- the network view of a transcript, the oldest item first
unfoldable pub view_of : List Arrival → View
view_of items = view_back (reverse items)
