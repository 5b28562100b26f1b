-- How messages are played back, by a profile. What the whole one plays is the playback.
use Rattle.std.specs.Prelude.{ℕ, ◌+◌, Bool, false, not, ◌&&◌, if◌then◌else◌, List, [], ◌∷◌, ◌++◌}
use Rattle.std.specs.Prelude.{map, filter, length, None, Option, codes, is_some}
use Rattle.std.specs.List.{enumerate_from, flat_map, fold, list_any}
use Rattle.std.specs.Option.{option_map, option_map_or, unwrap_or}
use Rattle.std.specs.FinMap as fin
use Rattle.irc_names.specs.CaseMapping.{key_of}
use Rattle.irc_names.specs.declared.case_mapping.CaseMapping.TheVariants.{Ascii}
use Rattle.irc_line.specs.Line.{Parts, nick_of}
use Rattle.irc_line.specs.Writing.{is_clean, is_word}
use Rattle.irc_support.specs.Text.{Text}
use Rattle.irc_support.specs.Settings.{is_channel, key_by}
use Rattle.net_view.specs.Names.{same}
use Rattle.net_view.specs.Changes.{fresh_channel}
use Rattle.net_view.specs.Readers.{known_at}
use Rattle.net_view.specs.View.{Channel, View}
use Rattle.history.specs.Entry.{EntryParts}
use Rattle.client_caps.specs.declared.caps.Caps.{Caps}
use Rattle.welcome.specs.declared.others.Sort.{Sort}
use Rattle.welcome.specs.declared.others.Sort.TheVariants.{Channels, Persons, Visits}
use Rattle.welcome.specs.declared.playing.Playing.{Playing}
use Rattle.welcome.specs.Burst.{join_line, state_part_of}
use Rattle.welcome.specs.Playback.{backlog_of, entry_line, is_for, is_for_a_channel}
use Rattle.welcome.specs.Times.{stamped}

-- messages as they came, those for no channel that we are on all together
abbrev pub playing_whole : Playing
playing_whole = record { private_batches = false; times = None; visits = false }

-- ---- the partner of a message (our own choice)

-- whether an entry is for us
abbrev pub is_for_us : View → EntryParts → Bool
is_for_us v e =
    option_map_or (λ own. same (key_by v.settings e.target) (key_by v.settings own)) v.own false

-- with whom a message was exchanged: the person in whose ring it is kept; without one, who said it to
-- us, else its target
abbrev pub partner_of : View → EntryParts → Text
partner_of v e = unwrap_or e.ring (if is_for_us v e then nick_of e.source else e.target)

-- what the batch of an entry is named after, a channel or a person
abbrev pub name_by : Sort → View → EntryParts → Text
name_by Channels v e = e.target
name_by Persons v e = partner_of v e
name_by Visits v e = e.target

-- whether an entry is for a channel, by its name, or for anybody else
abbrev pub is_of : Sort → View → EntryParts → Bool
is_of Channels v e = is_channel v.settings e.target
is_of Persons v e = not (is_channel v.settings e.target)
is_of Visits v e = is_channel v.settings e.target

-- what it is known by: a channel by the network's mapping, a person by `ascii`
abbrev pub group_key : Sort → View → EntryParts → Text
group_key Channels v e = key_by v.settings e.target
group_key Persons v e = key_of Ascii (partner_of v e)
group_key Visits v e = key_by v.settings e.target

-- the keys of entries, each once, in the order in which they come first
abbrev pub firsts : (EntryParts → Text) → List EntryParts → List Text
firsts key entries =
    fold (λ keys e. if list_any (same (key e)) keys then keys else keys ++ key e ∷ []) [] entries

-- the entries of each key, by its first entry
abbrev pub groups_by : (EntryParts → Text) → List EntryParts → List (List EntryParts)
groups_by key entries =
    map (λ k. filter (λ e. same (key e) k) entries) (firsts key entries)

-- ---- visits of channels that we are not on (our own choice)

-- our nick as it was spelled last, if somebody sees us, so that our JOIN gives no other spelling
abbrev pub own_spelled : View → Option Text
own_spelled v =
    option_map (λ own. unwrap_or (known_at (λ p. p.spelled) v (key_by v.settings own)) own) v.own

-- our JOIN of a channel of this name, as the burst has it, and our PART (RFC 2812, sections 3.2.1
-- and 3.2.2)
abbrev pub visit_join : View → Caps → Text → Parts
visit_join v caps name =
    record (join_line v caps (fresh_channel name [])) { source = own_spelled v }

abbrev pub visit_part : View → Text → Parts
visit_part v name =
    record { tags = None; source = own_spelled v; command = codes "PART"; params = name ∷ [] }

-- the lines of a visit come between them
abbrev pub around : Sort → View → Caps → Text → List Parts → List Parts
around Visits v caps name lines =
    visit_join v caps name ∷ (lines ++ visit_part v name ∷ [])
around Channels v caps name lines = lines
around Persons v caps name lines = lines

-- ---- their lines

-- whether a batch can have this name: a word that can be written (IRCv3 batch, type chathistory)
abbrev pub can_name : Text → Bool
can_name name = is_word name && is_clean name

-- a group in a batch of its name, if one can have it
abbrev pub group_lines : Sort → View → Caps → ℕ → List EntryParts → List Parts
group_lines sort v caps place [] = []
group_lines sort v caps place (e ∷ es) =
    if can_name (name_by sort v e)
    then around sort v caps (name_by sort v e) (backlog_of caps place (name_by sort v e) (e ∷ es))
    else map (entry_line caps []) (e ∷ es)

-- groups, whose batches are numbered from a place on
abbrev pub groups_lines : Sort → View → Caps → ℕ → List (List EntryParts) → List Parts
groups_lines sort v caps place [] = []
groups_lines sort v caps place (group ∷ groups) =
    group_lines sort v caps place group ++ groups_lines sort v caps (place + 1) groups

-- whether messages for no channel that we are on come in batches
abbrev pub is_private : Playing → Caps → Bool
is_private playing caps = playing.private_batches && caps.batch

-- the groups of the channels that we are not on, or those of everybody else
abbrev pub other_groups : Sort → View → List EntryParts → List (List EntryParts)
other_groups sort v others = groups_by (group_key sort v) (filter (is_of sort v) others)

-- other channels, and then persons
abbrev pub apart_groups : View → List EntryParts → List (List EntryParts)
apart_groups v others = other_groups Channels v others ++ other_groups Persons v others

-- whether messages for channels that we are not on come in visits
abbrev pub is_visiting : Playing → View → Bool
is_visiting playing v = playing.visits && is_some v.own

abbrev pub sort_of_channels : Playing → View → Sort
sort_of_channels playing v = if is_visiting playing v then Visits else Channels

-- their lines, with times in their texts; the first batch has this number
abbrev pub apart_lines : Playing → View → Caps → ℕ → List EntryParts → List Parts
apart_lines playing v caps first others =
    groups_lines (sort_of_channels playing v) v caps first
    (map (stamped playing.times caps) (other_groups Channels v others))
    ++ groups_lines Persons v caps (first + length (other_groups Channels v others))
    (map (stamped playing.times caps) (other_groups Persons v others))

-- other channels in visits and without batches, and then all else by time
abbrev pub visit_lines : Playing → View → Caps → List EntryParts → List Parts
visit_lines playing v caps others =
    groups_lines Visits v (record caps { batch = false }) 0
    (map (stamped playing.times caps) (other_groups Channels v others))
    ++ map (entry_line caps []) (stamped playing.times caps (filter (is_of Persons v) others))

-- what is for no channel that we are on: in batches, the first of this number, or other channels in
-- visits, or all of it by time
abbrev pub others_lines : Playing → View → Caps → ℕ → List EntryParts → List Parts
others_lines playing v caps first others =
    if is_private playing caps then apart_lines playing v caps first others
    else if is_visiting playing v then visit_lines playing v caps others
    else map (entry_line caps []) (stamped playing.times caps others)

-- per channel that we are on, and then all else; batches are numbered on
unfoldable pub playback_by : Playing → View → Caps → List EntryParts → List Parts
playback_by playing v caps entries =
    flat_map (λ (at : ℕ × (Text × Channel)). backlog_of caps at.0 at.1.1.name
    (stamped playing.times caps (filter (is_for v at.1.0) entries)))
    (enumerate_from 0 (fin.entries v.channels))
    ++ others_lines playing v caps (length (fin.entries v.channels))
    (filter (λ e. not (is_for_a_channel v e)) entries)

-- how many places batches can have
abbrev pub places_of : Playing → View → Caps → List EntryParts → ℕ
places_of playing v caps entries =
    length (fin.entries v.channels) + (if is_private playing caps
    then length (apart_groups v (filter (λ e. not (is_for_a_channel v e)) entries)) else 0)

-- the entries in the order of the playback
abbrev pub others_played : Playing → View → Caps → List EntryParts → List EntryParts
others_played playing v caps others =
    if is_private playing caps
    then flat_map (λ group. group) (apart_groups v others)
    else if is_visiting playing v
    then flat_map (λ group. group) (other_groups Channels v others)
    ++ filter (is_of Persons v) others
    else others

abbrev pub played_by : Playing → View → Caps → List EntryParts → List EntryParts
played_by playing v caps entries =
    flat_map (λ (c : Text × Channel). filter (is_for v c.0) entries) (fin.entries v.channels)
    ++ others_played playing v caps (filter (λ e. not (is_for_a_channel v e)) entries)

-- the same with times in their texts
abbrev pub others_said : Playing → View → Caps → List EntryParts → List EntryParts
others_said playing v caps others =
    if is_private playing caps
    then flat_map (stamped playing.times caps) (apart_groups v others)
    else if is_visiting playing v
    then flat_map (stamped playing.times caps) (other_groups Channels v others)
    ++ stamped playing.times caps (filter (is_of Persons v) others)
    else stamped playing.times caps others

abbrev pub said_by : Playing → View → Caps → List EntryParts → List EntryParts
said_by playing v caps entries =
    flat_map (λ (c : Text × Channel). stamped playing.times caps (filter (is_for v c.0) entries))
    (fin.entries v.channels)
    ++ others_said playing v caps (filter (λ e. not (is_for_a_channel v e)) entries)

-- the welcome burst of a view, with the entries of what was missed
abbrev pub burst_by : Playing → View → Caps → List EntryParts → List Parts
burst_by playing v caps entries = state_part_of v caps ++ playback_by playing v caps entries
