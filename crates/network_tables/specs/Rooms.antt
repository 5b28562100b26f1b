-- Channels that we are on.
use Rattle.std.specs.Prelude.{ℕ, List, map, Bool, if◌then◌else◌}
use Rattle.std.specs.Option.{option_map, option_map_or}
use Rattle.std.specs.Ordering.{nat_cmp}
use Rattle.std.specs.FinMap as fin
use Rattle.std.proofs.Common.{Option, Some, None}
use Rattle.irc_support.specs.Text.{Text}
use Rattle.net_view.specs.Names.{bytes_cmp}
use Rattle.net_view.specs.View.{Channel}
use Rattle.network_tables.specs.Shown.{shown}
use Rattle.network_tables.specs.declared.room.Room.{Room}
use Rattle.network_tables.specs.declared.slot.Slot.{Slot}

-- what is kept of a channel
abbrev pub channel_of : {A : Type 0} → Room A → Channel
channel_of room = record {
  name = room.name.items;
  topic = option_map (λ text. text.items) room.topic;
  modes = room.modes;
  members = room.members.all;
}

-- what is kept of all of them
abbrev pub rooms_of : {A : Type 0} → fin.FinMap bytes_cmp (Room A) → fin.FinMap bytes_cmp Channel
rooms_of rooms = shown channel_of rooms

-- a channel under its key
abbrev pub room_entry : {A : Type 0} → Slot (Room A) A → Text × Channel
room_entry slot = (slot.entry.value.key.items, channel_of slot.entry.value.value)

-- each channel changed
abbrev pub each_changed : (Channel → Channel) → List (Text × Channel) → List (Text × Channel)
each_changed change entries = map (λ e. (e.0, change e.1)) entries

-- whether the person is a member of this one
abbrev pub is_in : Text → Text × Channel → Bool
is_in n entry = fin.contains_key entry.1.members n

-- a copy of the key for a channel of these members, if the person is one
abbrev pub copy_for : Text → Text → fin.FinMap bytes_cmp (List ℕ) → Option Text
copy_for key n members = if fin.contains_key members n then Some key else None

-- those for all channels
abbrev pub copies_of : Text → Text → List (Text × Channel) → List (Option Text)
copies_of key n entries = map (λ e. copy_for key n e.1.members) entries

-- a channel with these modes
abbrev pub with_modes : fin.FinMap nat_cmp (Option Text) → Channel → Channel
with_modes modes ch = record {
  name = ch.name;
  topic = ch.topic;
  modes = modes;
  members =
      ch.members;
}

-- members after one got another key; whoever had that key is gone, if it may be taken
abbrev pub moved_in : Bool → Text → Text → fin.FinMap bytes_cmp (List ℕ) → fin.FinMap bytes_cmp
    (List ℕ)
moved_in taken old new m =
    option_map_or (λ ranks. fin.insert (fin.remove m old) new ranks) (fin.get m old)
    (if taken then fin.remove m new else m)

-- a channel after that
abbrev pub moved_channel : Bool → Text → Text → Channel → Channel
moved_channel taken old new ch = record {
  name = ch.name;
  topic = ch.topic;
  modes = ch.modes;
  members = moved_in taken old new ch.members;
}
