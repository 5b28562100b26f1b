-- What a tape keeps, as a transcript.
use Rattle.std.specs.Prelude.{◌≡◌, Bool, true, List, [], ◌∷◌, reverse, if◌then◌else◌}
use Rattle.irc_support.specs.Tokens.{Token}
use Rattle.net_view.specs.Arrival.{Arrival, Received, Lost}
use Rattle.std.proofs.Common.{Some}
use Rattle.net_view.specs.StateCommands.{state_command}
use Rattle.net_view.specs.StateLines.{told}
use Rattle.net_view.specs.Transcript.{standing, is_us, is_ready, settings_of}
use Rattle.tape_view.specs.Marks.{IsMarked}
use Rattle.tape_view.specs.declared.kept.Kept.{Kept}

abbrev pub with_lost : Bool → List Arrival → List Arrival
with_lost lost items = if lost then Lost ∷ items else items

-- the items that kept lines stand for, the newest first
abbrev pub played_back : {A : Type 0} → List (Kept A) → List Arrival
played_back [] = []
played_back (k ∷ older) = with_lost k.lost (Received k.line ∷ played_back older)

-- the same of kept lines that are in the order in which they came
unfoldable pub tape_of : {A : Type 0} → List (Kept A) → List Arrival
tape_of kept = played_back (reverse kept)

-- A kept line is marked by its command, by who we were before it, and by whether the settings are
-- fixed after it.
pub record IsMarkedLine {A : Type 0} (older : List Arrival) (k : Kept A) : Type 0 where
  pub command : state_command k.line ≡ Some k.command
  pub marks : IsMarked (is_us (standing older)) (told (settings_of older) (Received k.line)) k.marks
  pub fixed : k.fixed ≡ is_ready (Received k.line ∷ older)

-- each kept line is marked so; the newest comes first
abbrev pub AreMarked : {A : Type 0} → List (Kept A) → Type 0
AreMarked [] = Unit {0}
AreMarked (k ∷ older) = IsMarkedLine (played_back older) k × AreMarked older

-- the same of kept lines that are in the order in which they came
unfoldable pub IsMarkedTape : {A : Type 0} → List (Kept A) → Type 0
IsMarkedTape kept = AreMarked (reverse kept)

-- once the settings are fixed, they are these
abbrev pub IsReadBy : {A : Type 0} → List Token → List (Kept A) → Type 0
IsReadBy settings kept = is_ready (tape_of kept) ≡ true → settings_of (tape_of kept) ≡ settings

-- Kept lines that can be read: they are marked, and these are the settings in force.
pub record IsReadable {A : Type 0} (settings : List Token) (kept : List (Kept A)) : Type 0 where
  pub marked : IsMarkedTape kept
  pub read : IsReadBy settings kept
