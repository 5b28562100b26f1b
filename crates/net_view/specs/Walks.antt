-- What is gone through of a network view, in the order of the keys.
use Rattle.std.specs.Prelude.{ℕ, List, [], map}
use Rattle.std.specs.Option.{option_map, option_map_or}
use Rattle.std.specs.FinMap as fin
use Rattle.std.proofs.Common.{Option}
use Rattle.irc_support.specs.Text.{Text}
use Rattle.net_view.specs.View.{Channel, View}
use Rattle.net_view.specs.Readers.{MemberParts, channel_shown, member_parts}
use Rattle.net_view.specs.declared.channel.Member.{Member}

-- the modes of the channel at this place, in the order of their letters' bytes
abbrev pub modes_at : View → ℕ → List (ℕ × Option Text)
modes_at v i = option_map_or (λ (ch : Channel). fin.entries ch.modes) (channel_shown v i) []

-- the members of the channel at this place, in the order of their keys, with their ranks
abbrev pub members_at : View → ℕ → List (Text × List ℕ)
members_at v i = option_map_or (λ (ch : Channel). fin.entries ch.members) (channel_shown v i) []

-- the same members, as they are shown
abbrev pub member_parts_at : View → ℕ → List MemberParts
member_parts_at v i = map (member_parts v) (members_at v i)

-- a member, from its lent parts
abbrev pub parts_of : Member → MemberParts
parts_of member = record {
  nick = member.nick.now;
  ranks = member.ranks;
  account = option_map (λ name. name.now) member.account;
  away = option_map (λ text. text.now) member.away;
}
