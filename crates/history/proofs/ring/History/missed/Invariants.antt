use Rattle.history.proofs.ring.History.missed.Given as goal
use Rattle.{history.specs.{Entry.EntryParts, Messages.missed_by}, std.proofs.Common.{map, ℕ, ◌++◌}}
use Rattle.std.{proofs.Common.◌≡◌, specs.Borrow.Bor}

abbrev pub invariant-loop-entry : goal.invariant-loop-entry
invariant-loop-entry g l =
    map (λ (e : Bor EntryParts). e.now) l.missed.items
    ++ map (λ (m : ℕ × EntryParts). m.1) l.entry-iterator
    ≡ missed_by l.fn.mark l.self
