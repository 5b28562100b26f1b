-- Whether one of messages is in a person's ring.
use Rattle.std.proofs.Common.{◌≡◌, ◌∙◌, arith, ℕ, List, [], ◌∷◌, true, refl, sym, ap, length}
use Rattle.std.proofs.Common.{reverse}
use Rattle.std.specs.Prelude.{nat_eq, not}
use Rattle.std.proofs.lemmas.Bool.Decides.{nat_tests}
use Rattle.std.proofs.lemmas.List.{length-reverse}
use Rattle.history.specs.Entry.{EntryParts}
use Rattle.history.specs.Messages.{Messages, is_with_person, kept_with, persons_held, target_key}
use Rattle.history.specs.Retained.{of_kind, targets}
use Rattle.journal.specs.Snapshots.{have_rings}

-- there are messages if there are targets of them
none_told : (ms : List (ℕ × EntryParts))
    → nat_eq (length (targets target_key ms)) 0 ≡ nat_eq (length ms) 0
none_told [] = refl
none_told (m ∷ ms) = grind (arith, nat_tests)

some_held : (ms : List (ℕ × EntryParts))
    → have_rings ms ≡ not (nat_eq (length (kept_with true ms)) 0)
some_held [] = refl
some_held (m ∷ ms) = grind (arith, nat_tests, some_held ms)

pub rings_held : (h : Messages) → have_rings h.kept ≡ not (nat_eq (persons_held h) 0)
rings_held h =
    let held = kept_with true h.kept in
    some_held h.kept
    ∙ ap (λ (n : ℕ). not (nat_eq n 0)) (sym (length-reverse held))
    ∙ ap not (sym (none_told (reverse held)))
