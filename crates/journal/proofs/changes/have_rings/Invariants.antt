use Rattle.std.proofs.Common.{◌≡◌, ℕ, Bor, length, map}
use Rattle.history.specs.Entry.{EntryParts}
use Rattle.journal.specs.Snapshots.{have_rings}
use Rattle.journal.proofs.changes.have_rings.Given as goal

abbrev pub invariant-loop-rest : goal.invariant-loop-rest
invariant-loop-rest l =
    have_rings (map (λ (m : ℕ × Bor EntryParts). (m.0, m.1.now)) l.rest)
    ≡ have_rings (map (λ (m : ℕ × Bor EntryParts). (m.0, m.1.now)) l.messages)

abbrev pub decreases-loop-rest : goal.decreases-loop-rest
decreases-loop-rest l = length l.rest
