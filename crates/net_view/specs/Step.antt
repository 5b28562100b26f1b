-- The view after one more item, from the view before it alone.
use Rattle.std.specs.Prelude.{ℕ, Bool, false, List, [], ◌∷◌, ◌++◌, is_some, if◌then◌else◌}
use Rattle.std.specs.List.{list_any}
use Rattle.std.specs.Option.{option_and_then, option_map, option_map_or, unwrap_or}
use Rattle.std.specs.Ordering.{nat_cmp}
use Rattle.std.specs.FinMap as map
use Rattle.std.specs.FinMap.{FinMap}
use Rattle.std.proofs.Common.{Option, Some, None}
use Rattle.irc_support.specs.Text.{Text}
use Rattle.irc_support.specs.Ranks.{ranks_that, has_rank}
use Rattle.net_view.specs.Names.{bytes_cmp}
use Rattle.net_view.specs.Told.{Told}
use Rattle.net_view.specs.Arrival.{Arrival}
use Rattle.net_view.specs.StateLines.{told}
use Rattle.net_view.specs.Transcript.{Standing, standing_after, is_us}
use Rattle.net_view.specs.LookBack.{name_before}
use Rattle.net_view.specs.Presence.{says_on}
use Rattle.net_view.specs.Topic.{says_topic}
use Rattle.net_view.specs.Modes.{says_mode}
use Rattle.net_view.specs.Members.{says_member, says_rank}
use Rattle.net_view.specs.Named.{letters_in, people_in, channels_in}
use Rattle.net_view.specs.Facts.{Says, says_spelling, says_account, says_away}
use Rattle.net_view.specs.Table.{table}
use Rattle.net_view.specs.View.{Channel, Person, View}

-- where a view leaves us
abbrev pub standing_of : View → Standing
standing_of v = record { own = v.own; ready = v.ready; settings = v.settings }

-- ---- a channel

-- the mode of the channel of before
abbrev pub old_mode : Option Channel → ℕ → Option (Option Text)
old_mode old letter = option_and_then (λ (ch : Channel). map.get ch.modes letter) old

-- the ranks of a member of the channel of before
abbrev pub old_member : Option Channel → Text → Option (List ℕ)
old_member old n = option_and_then (λ (ch : Channel). map.get ch.members n) old

-- the mode after the item: what it says, else as before
abbrev pub mode_after : (Text → Bool) → Told → Text → Option Channel → ℕ → Option (Option Text)
mode_after us t c old letter = unwrap_or (says_mode c letter us t) (old_mode old letter)

-- whether the rank was held, by whoever was a member
abbrev pub had_rank : ℕ → Option (List ℕ) → Bool
had_rank rank None = false
had_rank rank (Some ranks) = has_rank ranks rank

-- a member's ranks, from those under the name of before
abbrev pub member_from : (Text → Bool) → Told → Text → Option (List ℕ) → Text → Option (List ℕ)
member_from us t c before n =
    if unwrap_or (says_member c us t n) (is_some before)
    then Some (ranks_that (λ rank. unwrap_or (says_rank c rank us t n) (had_rank rank before)))
    else None

-- a member after the item, whose name before it may be another
abbrev pub member_after : (Text → Bool) → Told → Text → Option Channel → Text → Option (List ℕ)
member_after us t c old n =
    member_from us t c (option_and_then (old_member old) (name_before us t n)) n

-- a channel that we are on after the item, by this name
abbrev pub channel_from : (Text → Bool) → Told → Text → Option Channel → Text → Channel
channel_from us t c old name = record {
  name = name;
  topic = unwrap_or (says_topic c us t) (option_and_then (λ (ch : Channel). ch.topic) old);
  modes = table nat_cmp (letters_in t
      ++ option_map_or (λ (ch : Channel). map.keys ch.modes) old []) (mode_after us t c old);
  members =
      table bytes_cmp (people_in t
      ++ option_map_or (λ (ch : Channel). map.keys ch.members) old [])
      (member_after us t c old);
}

-- a channel after the item, if we are on it
abbrev pub channel_after : (Text → Bool) → Told → Text → Option Channel → Option Channel
channel_after us t c old =
    option_map (channel_from us t c old)
    (unwrap_or (says_on c us t) (option_map (λ (ch : Channel). ch.name) old))

-- all channels after the item
abbrev pub channels_after : (Text → Bool) → Told → FinMap bytes_cmp Channel
    → FinMap bytes_cmp Channel
channels_after us t cs =
    table bytes_cmp (channels_in t ++ map.keys cs) (λ c. channel_after us t c (map.get cs c))

-- ---- persons; cs are the channels after the item

-- whether the person is a member of one of the channels
abbrev pub is_seen : FinMap bytes_cmp Channel → Text → Bool
is_seen cs n = list_any (λ c. is_some (old_member (map.get cs c) n)) (map.keys cs)

-- the members of the channels of these keys
abbrev pub members_at : FinMap bytes_cmp Channel → List Text → List Text
members_at cs [] = []
members_at cs (c ∷ keys) =
    option_map_or (λ (ch : Channel). map.keys ch.members) (map.get cs c) [] ++ members_at cs keys

-- the members of all channels
abbrev pub everyone : FinMap bytes_cmp Channel → List Text
everyone cs = members_at cs (map.keys cs)

-- what is known after the item: what it says, else as before, under the name of before
abbrev pub known_after : Says → (Person → Option Text) → (Text → Bool) → Told
    → FinMap bytes_cmp Channel → FinMap bytes_cmp Person → Text → Option Text
known_after says field us t cs old n =
    unwrap_or (says us (map.contains_key cs) t n)
    (option_and_then (λ m. option_and_then field (map.get old m)) (name_before us t n))

-- what is known of a person in sight
abbrev pub person_from : (Text → Bool) → Told → FinMap bytes_cmp Channel → FinMap bytes_cmp Person
    → Text → Person
person_from us t cs old n = record {
  spelled = known_after says_spelling (λ p. p.spelled) us t cs old n;
  account = known_after says_account (λ p. p.account) us t cs old n;
  away = known_after says_away (λ p. p.away) us t cs old n;
}

-- a person after the item, if in sight
abbrev pub person_after : (Text → Bool) → Told → FinMap bytes_cmp Channel → FinMap bytes_cmp Person
    → Text → Option Person
person_after us t cs old n = if is_seen cs n then Some (person_from us t cs old n) else None

-- all persons after the item
abbrev pub people_after : (Text → Bool) → Told → FinMap bytes_cmp Channel → FinMap bytes_cmp Person
    → FinMap bytes_cmp Person
people_after us t cs old = table bytes_cmp (everyone cs) (person_after us t cs old)

-- ---- the whole

-- the view after what an item says
abbrev pub after_told : View → Told → View
after_told v t =
    let s = standing_after t (standing_of v) in
    let us = is_us (standing_of v) in
    let cs = channels_after us t v.channels in
    record {
      own = s.own;
      ready = s.ready;
      settings = s.settings;
      channels = cs;
      people = people_after us t cs v.people;
    }

-- the view after an item
unfoldable pub after : View → Arrival → View
after v x = after_told v (told v.settings x)
