-- What has places: channels, or the members of a channel.
use Rattle.std.specs.Prelude.{ℕ, Bool, List, is_some, length, slice_get, map as map_list}
use Rattle.std.specs.List.{filter_map}
use Rattle.std.specs.Option.{option_map}
use Rattle.std.specs.FinMap as map
use Rattle.std.proofs.Common.{Option}
use Rattle.irc_line.specs.Line.{Parts}
use Rattle.irc_support.specs.Line.{words_in}
use Rattle.irc_support.specs.Text.{Text}
use Rattle.irc_support.specs.Tokens.{Token}
use Rattle.net_view.specs.StateLines.{listing}
use Rattle.net_view.specs.Told.{Told}
use Rattle.net_view.specs.Presence.{name_on}
use Rattle.net_view.specs.Members.{is_member}
use Rattle.net_view.specs.Named.{channels_in, people_in}
use Rattle.net_view.specs.View.{channels_of, members_of}
use Rattle.tape_view.specs.Tape.{Heard, key}
use Rattle.tape_view.specs.declared.places.Table.{Table}
use Rattle.tape_view.specs.declared.places.Table.TheVariants.{Channels, Members}

-- the keys of the members that a 353 names
abbrev pub keys_listed : List Token → Parts → List Text
keys_listed settings line =
    map_list (λ l. l.person.key) (filter_map (listing settings) (words_in settings line))

-- the keys that an item names
abbrev pub names_in : Table → Told → List Text
names_in Channels t = channels_in t
names_in (Members channel) t = people_in t

-- whether what has this key is in the table
abbrev pub is_there : Heard → Table → Text → Bool
is_there tape Channels k = is_some (name_on tape.readings k)
is_there tape (Members channel) k = is_member tape.readings (key tape channel.now) k

-- the key at a place
abbrev pub key_at : Heard → Table → ℕ → Option Text
key_at tape Channels i =
    option_map (λ e. e.0) (slice_get (map.entries (channels_of tape.readings)) i)
key_at tape (Members channel) i =
    option_map (λ e. e.0)
    (slice_get (map.entries (members_of tape.readings (key tape channel.now))) i)

-- how many there are
abbrev pub table_len : Heard → Table → ℕ
table_len tape Channels = length (map.entries (channels_of tape.readings))
table_len tape (Members channel) =
    length (map.entries (members_of tape.readings (key tape channel.now)))
