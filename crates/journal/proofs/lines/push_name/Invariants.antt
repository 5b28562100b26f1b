use Rattle.std.proofs.Common.{◌≡◌, ◌++◌, length}
use Rattle.journal.specs.Records.{escaped}
use Rattle.journal.proofs.lines.push_name.Given as goal

abbrev pub invariant-loop-rest : goal.invariant-loop-rest
invariant-loop-rest l = l.tags.items ++ escaped l.rest ≡ l.fn.tags.items ++ escaped l.name

abbrev pub decreases-loop-rest : goal.decreases-loop-rest
decreases-loop-rest l = length l.rest
