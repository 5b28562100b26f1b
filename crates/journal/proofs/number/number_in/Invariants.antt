use Rattle.std.proofs.Common.{◌≡◌, length}
use Rattle.journal.specs.Reading.{number_in, number_on}
use Rattle.journal.proofs.number.number_in.Given as goal

abbrev pub invariant-loop-rest : goal.invariant-loop-rest
invariant-loop-rest l = number_on l.number l.rest ≡ number_in l.text

abbrev pub decreases-loop-rest : goal.decreases-loop-rest
decreases-loop-rest l = length l.rest
