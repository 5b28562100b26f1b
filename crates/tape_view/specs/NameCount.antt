-- How many names of channels and persons kept lines bring up, which bounds how many channels or
-- members are shown.
use Rattle.std.specs.Prelude.{ℕ, ◌<◌, ◌≤◌, ◌^◌, List, length}
use Rattle.tape_view.specs.declared.places.Table.{Table}
use Rattle.tape_view.specs.declared.kept.Kept.{Kept}
use Rattle.net_view.specs.Told.{Told, Joined, Renamed, Present}
use Rattle.net_view.specs.Transcript.{readings_of}
use Rattle.net_view.specs.Named.{named}
use Rattle.tape_view.specs.Kept.{tape_of}
use Rattle.tape_view.specs.Places.{names_in}

-- how many names an item brings up, of channels or of persons, whichever are more
abbrev pub name_count : Told → ℕ
name_count (Joined channel valid who account) = 1
name_count (Renamed old new) = 1
name_count (Present channel listings) = length listings
name_count _ = 0

-- a number of 64 bits; the kept lines bring up no more channels than this, and no more persons
pub record IsCounted {A : Type 0} (kept : List (Kept A)) (count : ℕ) : Type 0 where
  pub small : count < 2 ^ 64
  pub enough : (table : Table)
      → length (named (names_in table) (readings_of (tape_of kept))) ≤ count
