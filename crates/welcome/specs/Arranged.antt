-- The playback by the steps in which it is arranged and written.
use Rattle.std.specs.Prelude.{◌≡◌, ℕ, zero, suc, ◌+◌, not, if◌then◌else◌, List, [], ◌∷◌, ◌++◌, map}
use Rattle.std.specs.Prelude.{filter}
use Rattle.std.specs.Prelude.{codes, length, slice_index_or}
use Rattle.std.specs.List.{AllByRecursion, fold}
use Rattle.std.specs.declared.cmp.Ordering.TheVariants.{Less}
use Rattle.std.specs.FinMap as fin
use Rattle.irc_line.specs.Line.{Parts}
use Rattle.irc_names.specs.CaseMapping.{key_of}
use Rattle.irc_names.specs.declared.case_mapping.CaseMapping.{CaseMapping}
use Rattle.irc_support.specs.Text.{Text}
use Rattle.net_view.specs.Names.{bytes_cmp, same}
use Rattle.net_view.specs.View.{Channel, View}
use Rattle.history.specs.Entry.{EntryParts}
use Rattle.client_caps.specs.declared.caps.Caps.{Caps}
use Rattle.client_caps.specs.Answers.{from_bouncer}
use Rattle.welcome.specs.declared.playing.Playing.{Playing}
use Rattle.welcome.specs.Playing.{apart_groups, is_private, others_lines}
use Rattle.welcome.specs.Playback.{backlog_of, batch_name, entry_line, is_for, is_for_a_channel}
use Rattle.welcome.specs.Times.{stamped}

-- one more in the group at a place
abbrev pub push_at : {X : Type 0} → ℕ → X → List (List X) → List (List X)
push_at n x [] = []
push_at zero x (g ∷ gs) = (g ++ x ∷ []) ∷ gs
push_at (suc n) x (g ∷ gs) = g ∷ push_at n x gs

-- one more in the group at a place, or in a new one at the end
abbrev pub put_at : {X : Type 0} → ℕ → X → List (List X) → List (List X)
put_at n x [] = (x ∷ []) ∷ []
put_at zero x (g ∷ gs) = (g ++ x ∷ []) ∷ gs
put_at (suc n) x (g ∷ gs) = g ∷ put_at n x gs

-- the place of the first of these names that is one name with the target, or their count
abbrev pub place_among : CaseMapping → Text → List Text → ℕ
place_among mapping target [] = 0
place_among mapping target (name ∷ names) =
    if same (key_of mapping target) (key_of mapping name) then 0
    else place_among mapping target names + 1

-- these names are in the order of their keys, and no two are one name
abbrev pub AreInKeyOrder : CaseMapping → List Text → Type 0
AreInKeyOrder mapping [] = Unit {0}
AreInKeyOrder mapping (name ∷ names) =
    AllByRecursion (λ later. bytes_cmp (key_of mapping name) (key_of mapping later) ≡ Less) names
    × AreInKeyOrder mapping names

-- each entry in the group at the place of its target, and last the group of all others
abbrev pub grouped_by : CaseMapping → List Text → List EntryParts → List (List EntryParts)
grouped_by mapping names entries =
    fold (λ groups (e : EntryParts). push_at (place_among mapping e.target names) e groups)
    (map (λ (name : Text). []) names ++ [] ∷ []) entries

-- the names of the channels, in key order
abbrev pub channel_names_of : View → List Text
channel_names_of v = map (λ (e : Text × Channel). e.1.name) (fin.entries v.channels)

-- the entries of each channel in key order, and last those of none
abbrev pub groups_of : View → List EntryParts → List (List EntryParts)
groups_of v entries =
    map (λ (c : Text × Channel). filter (is_for v c.0) entries) (fin.entries v.channels)
    ++ filter (λ e. not (is_for_a_channel v e)) entries ∷ []

-- the tag of a batch, and of a time
abbrev pub batch_tag : ℕ → Text
batch_tag place = codes "batch=" ++ batch_name place

abbrev pub time_tag : Text → Text
time_tag time = codes "time=" ++ time

-- these entries as the batch of the channel at a place
abbrev pub batch_of : Caps → ℕ → Text → List EntryParts → List Parts
batch_of caps place name entries =
    from_bouncer (codes "BATCH")
    ((codes "+" ++ batch_name place) ∷ codes "chathistory" ∷ name ∷ [])
    ∷ (map (entry_line caps (batch_tag place ∷ [])) entries
    ++ from_bouncer (codes "BATCH") ((codes "-" ++ batch_name place) ∷ []) ∷ [])

-- the messages of the channels from a place on, by their names and their groups
abbrev pub backlogs_of : Caps → ℕ → List Text → List (List EntryParts) → List Parts
backlogs_of caps place [] groups = []
backlogs_of caps place (name ∷ names) [] = []
backlogs_of caps place (name ∷ names) (group ∷ groups) =
    backlog_of caps place name group ++ backlogs_of caps (place + 1) names groups

-- the messages of all groups; the last one is of those for no channel
abbrev pub arranged_by : Playing → View → Caps → List Text → List (List EntryParts) → List Parts
arranged_by playing v caps names groups =
    backlogs_of caps 0 names (map (stamped playing.times caps) groups)
    ++ others_lines playing v caps (length names) (slice_index_or groups (length names) [])

-- how many places their batches can have
abbrev pub places_among : Playing → View → Caps → List Text → List (List EntryParts) → ℕ
places_among playing v caps names groups =
    length names + (if is_private playing caps
    then length (apart_groups v (slice_index_or groups (length names) [])) else 0)
