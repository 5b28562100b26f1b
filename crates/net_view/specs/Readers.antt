-- What the readers of a network view answer, by places in key order, counted from 0.
use Rattle.std.specs.Prelude.{ℕ, List, length, slice_get, if◌then◌else◌}
use Rattle.std.specs.Option.{option_and_then, option_map, option_map_or, unwrap_or}
use Rattle.std.specs.Borrow.{Bor}
use Rattle.std.specs.FinMap as map
use Rattle.std.proofs.Common.{Option, None}
use Rattle.irc_names.specs.Nick.{is_nameable}
use Rattle.irc_support.specs.Text.{Text}
use Rattle.irc_support.specs.Settings.{key_by}
use Rattle.net_view.specs.View.{Channel, Person, View}

-- how many channels we are on
abbrev pub channels_shown : View → ℕ
channels_shown v = length (map.entries v.channels)

-- the channel at this place
abbrev pub channel_shown : View → ℕ → Option Channel
channel_shown v i = option_map (λ e. e.1) (slice_get (map.entries v.channels) i)

-- the mode at place j of the channel at place i, in the order of the letters' bytes: the letter and
-- its parameter, if it has one
abbrev pub mode_shown : View → ℕ → ℕ → Option (ℕ × Option Text)
mode_shown v i j =
    option_and_then (λ (ch : Channel). slice_get (map.entries ch.modes) j) (channel_shown v i)

-- a mode, from its letter and a reference to its parameter
abbrev pub mode_parts : ℕ × Option (Bor Text) → ℕ × Option Text
mode_parts mode = (mode.0, option_map (λ param. param.now) mode.1)

-- how many members the channel at this place has
abbrev pub members_shown : View → ℕ → ℕ
members_shown v i =
    option_map_or (λ (ch : Channel). length (map.entries ch.members)) (channel_shown v i) 0

-- a member as it is shown: the nick as spelled last, the ranks held on this channel with the
-- highest first, and what is known of the person
pub record MemberParts : Type 0 where
  pub nick : Text
  pub ranks : List ℕ
  pub account : Option Text
  pub away : Option Text

-- what is known of the person of this key
abbrev pub known_at : (Person → Option Text) → View → Text → Option Text
known_at field v key = option_and_then field (map.get v.people key)

-- the member of this key; each member of a channel that we are on is spelled
abbrev pub member_parts : View → Text × List ℕ → MemberParts
member_parts v member = record {
  nick = unwrap_or (known_at (λ p. p.spelled) v member.0) member.0;
  ranks = member.1;
  account = known_at (λ p. p.account) v member.0;
  away = known_at (λ p. p.away) v member.0;
}

-- the member at place j of the channel at place i
abbrev pub member_shown : View → ℕ → ℕ → Option MemberParts
member_shown v i j =
    option_and_then
    (λ (ch : Channel). option_map (member_parts v) (slice_get (map.entries ch.members) j))
    (channel_shown v i)

-- the account of the person of this nick, if one is known; of a name that is not nameable
-- nothing is, though its key may be a person's: under rfc1459 `~x` folds to the key of `^x`
abbrev pub account_shown : View → Text → Option Text
account_shown v nick =
    if is_nameable nick then known_at (λ p. p.account) v (key_by v.settings nick) else None
