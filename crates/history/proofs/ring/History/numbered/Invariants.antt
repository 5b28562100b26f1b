use Rattle.history.proofs.ring.History.numbered.Given as goal
use Rattle.{history.specs.Entry.EntryParts, std.proofs.Common.{map, ℕ, ◌++◌}}
use Rattle.std.{proofs.Common.◌≡◌, specs.Borrow.Bor}

abbrev pub invariant-loop-item : goal.invariant-loop-item
invariant-loop-item g l =
    map (λ (m : ℕ × Bor EntryParts). (m.0, m.1.now)) l.all.items ++ l.item-iterator ≡ l.self.kept
