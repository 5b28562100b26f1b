use Rattle.history.proofs.marks.Marks.new.Goals as goal
use Rattle.history.proofs.MarkCounts.{few_none}

pub invariant_of-result : goal.invariant_of-result
invariant_of-result g c = rw c.new.ensures few_none
