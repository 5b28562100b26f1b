-- What the readers of a view lend of a channel, as the lines of the burst take it.
use Rattle.std.specs.Prelude.{◌≡◌, ℕ, Bool, List, ◌∷◌, map, option_map}
use Rattle.std.specs.List.{flat_map}
use Rattle.std.specs.FinMap as fin
use Rattle.std.specs.Ordering.{is_eq}
use Rattle.std.specs.declared.cmp.Ordering.{Ordering}
use Rattle.irc_names.specs.declared.case_mapping.CaseMapping.{CaseMapping}
use Rattle.irc_names.specs.CaseMapping.{key_of}
use Rattle.net_view.specs.Names.{bytes_cmp}
use Rattle.std.proofs.Common.{Some, None}
use Rattle.irc_support.specs.Text.{Text}
use Rattle.net_view.specs.View as view
use Rattle.net_view.specs.Readers.{MemberParts, member_parts}
pub use Rattle.net_view.specs.Walks.{members_at, modes_at}
use Rattle.net_view.specs.declared.channel.Channel.{Channel}
use Rattle.welcome.specs.declared.persons.Person.{Person}
use Rattle.network_tables.specs.Head.{head_of, AreBytesTo}

-- a channel of this name and topic, with no modes and no members
abbrev pub lent : Channel → view.Channel
lent channel = record {
  name = channel.name.now;
  topic = option_map (λ text. text.now) channel.topic;
  modes = fin.empty;
  members = fin.empty;
}

-- a person, from what is lent
abbrev pub person_lent : Person → view.Person
person_lent person = record {
  spelled = Some person.nick.now;
  account = option_map (λ name. name.now) person.account;
  away = option_map (λ text. text.now) person.away;
}

-- a person with nothing known but the nick
abbrev pub person_named : Text → view.Person
person_named nick = record { spelled = Some nick; account = None; away = None }

-- a person, as a member is shown
abbrev pub person_shown : MemberParts → view.Person
person_shown member =
    record { spelled = Some member.nick; account = member.account; away = member.away }

-- the persons of the channel at this place, in the order of their keys
abbrev pub persons_at : view.View → ℕ → List view.Person
persons_at v i = map (λ m. person_shown (member_parts v m)) (members_at v i)

-- the persons of all channels, channel by channel; who is on several is listed for each
abbrev pub persons_on_channels : view.View → List view.Person
persons_on_channels v =
    flat_map (λ (e : Text × view.Channel).
    map (λ m. person_shown (member_parts v m)) (fin.entries e.1.members)) (fin.entries v.channels)

-- the order of persons: that of their keys
abbrev pub by_key : CaseMapping → Person → Person → Ordering
by_key mapping a b = bytes_cmp (key_of mapping a.nick.now) (key_of mapping b.nick.now)

-- whether the two have one key
abbrev pub is_one : CaseMapping → Person → Person → Bool
is_one mapping a b = is_eq (by_key mapping a b)

-- the head kept with a person is that of the nick's key, whose first eight are bytes
abbrev pub HasHead : CaseMapping → Person → Type 0
HasHead mapping p =
    (p.head ≡ head_of (key_of mapping p.nick.now)) × AreBytesTo 8 (key_of mapping p.nick.now)

-- the order of persons by their heads and then by their keys
abbrev pub by_head : CaseMapping → Person → Person → Ordering
by_head mapping a b =
    bytes_cmp (a.head ∷ key_of mapping a.nick.now) (b.head ∷ key_of mapping b.nick.now)
