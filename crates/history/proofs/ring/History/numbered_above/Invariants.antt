use Rattle.history.proofs.ring.History.numbered_above.Given as goal
use Rattle.history.specs.{Entry.EntryParts, Messages.is_missed}
use Rattle.std.{proofs.Common.{filter, map, ℕ, ◌++◌, ◌≡◌}, specs.Borrow.Bor}

abbrev pub invariant-loop-item : goal.invariant-loop-item
invariant-loop-item g l =
    map (λ (m : ℕ × Bor EntryParts). (m.0, m.1.now)) l.above.items ++ l.item-iterator
    ≡ filter (is_missed l.fn.mark) l.self.kept
