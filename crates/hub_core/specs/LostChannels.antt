-- Which channels we were on when a connection was lost: what is to be joined again.
use Rattle.std.specs.Prelude.{Bool, true, false, ◌&&◌, not, List, [], ◌∷◌, filter, map, reverse}
use Rattle.std.specs.Prelude.{if◌then◌else◌}
use Rattle.std.specs.Option.{option_and_then, option_map, option_or}
use Rattle.std.specs.FinMap as fin
use Rattle.std.specs.Prelude.{Vec}
use Rattle.std.specs.declared.alloc.Global.{Global}
use Rattle.std.proofs.Common.{Option, Some, None, ℕ}
use Rattle.irc_names.specs.CaseMapping.{key_of}
use Rattle.irc_support.specs.Settings.{key_by}
use Rattle.irc_support.specs.Text.{Text}
use Rattle.net_view.specs.Arrival.{Arrival, Received, Lost}
use Rattle.net_view.specs.Named.{named, channels_in}
use Rattle.net_view.specs.Names.{bytes_cmp, same}
use Rattle.net_view.specs.Step.{standing_of}
use Rattle.net_view.specs.StateLines.{told}
use Rattle.net_view.specs.Table.{table}
use Rattle.net_view.specs.Told.{Told, Joined, Parted, Kicked, Quits}
use Rattle.net_view.specs.Transcript.{is_us, readings_of}
use Rattle.net_view.specs.View.{Channel, View, view_back}
use Rattle.network_tables.specs.declared.slot.Entry.{Entry}
use Rattle.hub_core.specs.declared.lost.LostChannel.{LostChannel}
use Rattle.hub_core.specs.declared.lost.Settled.{Settled}
use Rattle.hub_core.specs.declared.lost.Settled.TheVariants.{Nothing, One, All}

-- a channel's key, if it has one: the parameter of its mode k (RFC 2811, section 4.2.10; the
-- letter k is the byte 107)
abbrev pub key_of_channel : Channel → Option Text
key_of_channel channel = option_and_then (λ param. param) (fin.get channel.modes 107)

-- what a JOIN of a channel says: its name, and its key (RFC 2812, section 3.2.1)
abbrev pub Joining : Type 0
Joining = Text × Option Text

-- channels that are to be joined again, by the keys of their names
abbrev pub Joinings : Type 0
Joinings = fin.FinMap bytes_cmp Joining

-- how we join a channel again that we are on
abbrev pub joining_of : Channel → Joining
joining_of channel = (channel.name, key_of_channel channel)

-- whether it is our own JOIN of the channel of this key, our PART of it, a KICK of us off it, or
-- our QUIT (RFC 2812, sections 3.2.1, 3.2.2, 3.2.8 and 3.1.7)
abbrev pub is_of_ours : (Text → Bool) → Told → Text → Bool
is_of_ours us (Joined channel valid who account) c = us who.key && valid && same c channel.key
is_of_ours us (Parted channel who) c = us who && same c channel
is_of_ours us (Kicked channel who) c = us who && same c channel
is_of_ours us (Quits who) c = us who
is_of_ours us _ c = false

-- whether an item is such a line, by the view before it
abbrev pub settles : View → Arrival → Text → Bool
settles v x c = is_of_ours (is_us (standing_of v)) (told v.settings x) c

-- how the channel of this key is to be joined again after the items, the newest first: since a loss
-- as we were on it then, until a JOIN, PART, KICK or QUIT of ours
abbrev pub lost_at : List Arrival → Text → Option Joining
lost_at [] c = None
lost_at (Lost ∷ older) c =
    option_or (option_map joining_of (fin.get (view_back older).channels c)) (lost_at older c)
lost_at (Received line ∷ older) c =
    if settles (view_back older) (Received line) c then None else lost_at older c

-- the channels that are to be joined again
unfoldable pub lost_channels : List Arrival → Joinings
lost_channels items =
    table bytes_cmp (named channels_in (readings_of (reverse items))) (lost_at (reverse items))

-- ---- the channels of before the hub began, which are known by name alone

-- whether such a channel is still to be joined after an item: the item is no JOIN, PART, KICK or QUIT
-- of ours that names it, by the mapping of the view before it
abbrev pub stays : View → Arrival → Joining → Bool
stays v x channel = not (settles v x (key_by v.settings channel.0))

-- those that are
abbrev pub still : View → Arrival → List Joining → List Joining
still v x channels = filter (stays v x) channels

-- ---- how an item changes them, by the view before it

-- the channels of a view, by the keys of their names
abbrev pub channels_of_view : View → List (Text × Joining)
channels_of_view v = map (λ (e : Text × Channel). (e.0, joining_of e.1)) (fin.entries v.channels)

-- the channels that a loss adds
abbrev pub lost_by : View → Arrival → Option (List (Text × Joining))
lost_by v (Received line) = None
lost_by v Lost = Some (channels_of_view v)

-- the channel of this key, by the channels that are added, and by whether one is taken off
abbrev pub lost_then : Option (List (Text × Joining)) → Bool → Text → Option Joining
    → Option Joining
lost_then (Some new) off c before = option_or (fin.find bytes_cmp c new) before
lost_then None off c before = if off then None else before

-- these channels, each put in its place in turn
abbrev pub put_all : Joinings → List (Text × Joining) → Joinings
put_all lost [] = lost
put_all lost (e ∷ new) = put_all (fin.insert lost e.0 e.1) new

-- which channels are taken off
abbrev pub is_settled : Settled → Text → Bool
is_settled Nothing c = false
is_settled (One mapping channel) c = same c (key_of mapping channel.now)
is_settled All c = true

-- whether the channel of this name is
abbrev pub is_named : Settled → Text → Bool
is_named Nothing name = false
is_named (One mapping channel) name = same (key_of mapping name) (key_of mapping channel.now)
is_named All name = true

-- what is kept of a channel
abbrev pub joining : LostChannel → Joining
joining c =
    (c.name.items, option_map (λ (key : Vec ℕ Global). key.items) c.key)

-- the same by the key of its name
abbrev pub keyed : Entry LostChannel Global → Text × Joining
keyed entry = (entry.key.items, joining entry.value)
