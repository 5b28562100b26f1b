use Rattle.history.proofs.marks.Marks.forget.Goals as goal
use Rattle.history.proofs.MarkCounts.{few_left}

pub invariant_of-self : goal.invariant_of-self
invariant_of-self g c = rw c.remove.ensures (few_left _ _ c.self.invariant)
