-- What is retained, computed at lists of messages: each has its target and its text, oldest first.
use Prim.Native.String.{String}
use Rattle.history.specs.Retained.{retained}
use Rattle.std.proofs.Common.{◌∷◌, ◌≡◌, List, [], codes, refl, ℕ}

abbrev Said : Type 0
Said = String × String

-- this many targets, and this many messages of each
abbrev kept : ℕ → ℕ → List Said → List Said
kept most n ms = retained (λ (m : Said). codes m.0) most n ms

-- the last two of each target, in the order in which they came
last_two : (kept 128 2 [] ≡ [])
    × (kept 128 2 (("#a", "1") ∷ ("#b", "2") ∷ ("#a", "3") ∷ ("#a", "4") ∷ [])
    ≡ ("#b", "2") ∷ ("#a", "3") ∷ ("#a", "4") ∷ [])
    × (kept 128 1 (("#a", "1") ∷ ("bob", "2") ∷ ("#a", "3") ∷ [])
    ≡ ("bob", "2") ∷ ("#a", "3") ∷ [])
last_two = (refl, refl, refl)

-- a third target makes the one that was written to least recently be forgotten, with all its
-- messages; when it is written to again, its older messages stay forgotten
two_targets :
    (kept 2 5 (("#a", "1") ∷ ("#b", "2") ∷ ("#c", "3") ∷ []) ≡ ("#b", "2") ∷ ("#c", "3") ∷ [])
    × (kept 2 5 (("#a", "1") ∷ ("#b", "2") ∷ ("#a", "3") ∷ ("#c", "4") ∷ [])
    ≡ ("#a", "1") ∷ ("#a", "3") ∷ ("#c", "4") ∷ [])
    × (kept 2 5 (("#a", "1") ∷ ("#b", "2") ∷ ("#c", "3") ∷ ("#a", "4") ∷ [])
    ≡ ("#c", "3") ∷ ("#a", "4") ∷ [])
two_targets = (refl, refl, refl)
