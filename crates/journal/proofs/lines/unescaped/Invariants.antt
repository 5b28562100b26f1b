use Rattle.std.proofs.Common.{◌≡◌, ◌++◌, length}
use Rattle.journal.specs.Reading.{unescaped, unescaped_on}
use Rattle.journal.proofs.lines.unescaped.Given as goal

abbrev pub invariant-loop-rest : goal.invariant-loop-rest
invariant-loop-rest l =
    l.name.items ++ unescaped_on l.is_escape l.rest ≡ unescaped l.text

abbrev pub decreases-loop-rest : goal.decreases-loop-rest
decreases-loop-rest l = length l.rest
