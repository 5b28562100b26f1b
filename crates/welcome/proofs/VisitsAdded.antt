-- The messages of visits and the rest, as they are written one after the other.
use Rattle.client_caps.specs.declared.caps.Caps.{Caps}
use Rattle.history.specs.Entry.{EntryParts}
use Rattle.welcome.proofs.PlaybackWhole.{added, all_now, and_added}
use Rattle.welcome.proofs.Words.{◌++◌, ◌∷◌, ◌≡◌, Bor, List, None, Option, Some, Text, View, [], entry_line, false}
use Rattle.welcome.proofs.Words.{filter, flat_map, map, refl, written}
use Rattle.welcome.specs.declared.others.Sort.TheVariants.{Channels, Persons, Visits}
use Rattle.welcome.specs.declared.playing.Offset.{Offset}
use Rattle.welcome.specs.declared.playing.Playing.{Playing}
use Rattle.welcome.specs.Playing.{groups_lines, is_of, other_groups, visit_lines}
use Rattle.welcome.specs.Times.{stamped}

-- batches have no say in what is in a text
stamped_alike : (times : Option Offset) (caps : Caps) (es : List EntryParts)
    → stamped times (record caps { batch = false }) es ≡ stamped times caps es
stamped_alike None caps es = refl
stamped_alike (Some offset) caps es = refl

groups_alike : {Y : Type 0} (times : Option Offset) (caps : Caps) (f : Y → List EntryParts)
    (gs : List Y) → map (λ g. stamped times (record caps { batch = false }) (f g)) gs
    ≡ map (stamped times caps) (map f gs)
groups_alike times caps f [] = refl
groups_alike times caps f (g ∷ gs) =
    rw (stamped_alike times caps (f g), groups_alike times caps f gs) refl

pub visits_added : {Y : Type 0} (playing : Playing) (v : View) (caps : Caps) (es : List EntryParts)
    (f : Y → List EntryParts) (gs : List Y) (ps : List (Bor EntryParts)) (t0 t1 t2 : Text)
    → map f gs ≡ other_groups Channels v es → all_now ps ≡ filter (is_of Persons v) es
    → t1 ≡ t0 ++ flat_map written (groups_lines Visits v (record caps { batch = false }) 0
    (map (λ g. stamped playing.times (record caps { batch = false }) (f g)) gs))
    → t2 ≡ t1 ++ flat_map written
    (map (entry_line caps []) (stamped playing.times caps (all_now ps)))
    → t2 ≡ t0 ++ flat_map written (visit_lines playing v caps es)
visits_added playing v caps es f gs ps t0 t1 t2 channels persons one two =
    let first = rw (groups_alike playing.times caps f gs, channels) at one in
    let rest = rw persons at two in
    (and_added (added first) (added rest)).is
