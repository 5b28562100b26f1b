-- The members that a 353 lists, one after the other.
use Rattle.std.specs.Prelude.{ℕ, List, [], ◌∷◌}
use Rattle.std.specs.List.{filter_map}
use Rattle.std.specs.Option.{option_map_or}
use Rattle.std.specs.FinMap as fin
use Rattle.std.proofs.Common.{Some, None}
use Rattle.irc_line.specs.Line.{Parts}
use Rattle.irc_support.specs.Text.{Text}
use Rattle.irc_support.specs.Tokens.{Token}
use Rattle.irc_support.specs.Line.{words_in}
use Rattle.net_view.specs.Names.{bytes_cmp}
use Rattle.net_view.specs.Told as told
use Rattle.net_view.specs.StateLines.{listing}
use Rattle.net_view.specs.View.{Channel, Person, View}
use Rattle.net_view.specs.Changes.{told_person}
use Rattle.quick_view.specs.declared.listed.Listed.{Listed}

-- the members that a line lists
abbrev pub listings_in : List Token → Parts → List told.Listing
listings_in settings line = filter_map (listing settings) (words_in settings line)

-- a member that is listed
abbrev pub listing_of : {A : Type 0} → Listed A → told.Listing
listing_of l = record {
  person = record { key = l.person.known.key.items; spelled = l.person.known.value.nick.items };
  ranks =
      l.member.value.value;
}

-- members after a list
abbrev pub members_listed : fin.FinMap bytes_cmp (List ℕ) → List told.Listing → fin.FinMap
    bytes_cmp (List ℕ)
members_listed m [] = m
members_listed m (l ∷ ls) = members_listed (fin.insert m l.person.key l.ranks) ls

-- persons after a list
abbrev pub people_listed : fin.FinMap bytes_cmp Person → List told.Listing → fin.FinMap bytes_cmp
    Person
people_listed m [] = m
people_listed m (l ∷ ls) =
    people_listed
    (fin.insert m l.person.key (told_person (Some (Some l.person.spelled)) None None (fin.get m
    l.person.key)))
    ls

-- the view after a list of a channel's members, if we are on the channel
abbrev pub listed_view : View → Text → List told.Listing → View
listed_view v c ls =
    option_map_or (λ (ch : Channel). record {
      own = v.own;
      ready = v.ready;
      settings = v.settings;
      channels = fin.insert v.channels c (record {
        name = ch.name;
        topic = ch.topic;
        modes = ch.modes;
        members = members_listed ch.members ls;
      });
      people = people_listed v.people ls;
    }) (fin.get v.channels c) v
