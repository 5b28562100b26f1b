use Rattle.history.proofs.ring.History.add.Goals as goal
use Rattle.history.{proofs.{KeptBehind.below_next, LastMessages.all_kept}, specs.Entry.EntryParts}
use Rattle.history.specs.{Entry.IsWrittenEntry, Messages.AreWrittenMessages}
use Rattle.std.proofs.Common.{arith, subst, sym, ℕ}

pub invariant_of-self-2 : goal.invariant_of-self-2
invariant_of-self-2 g c = record {
  some = c.self.invariant.some;
  others = grind (arith, c.self.invariant.others);
  persons = grind (arith, c.self.invariant.others);
  below = grind (arith, below_next, c.self.invariant.below);
}

pub returns-clause-ok : goal.returns-clause-ok
returns-clause-ok g c = grind (arith, c.self.invariant.others)

pub returns-clause-written : goal.returns-clause-written
returns-clause-written g c here before =
    subst AreWrittenMessages (sym (returns-clause-ok g c).1)
    (all_kept (λ (m : ℕ × EntryParts). IsWrittenEntry m.1) c.args.self.now c.in-Some.number
    c.args.entry before here)
