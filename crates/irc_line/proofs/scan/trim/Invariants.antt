use Rattle.irc_line.proofs.scan.trim.Given as goal
use Rattle.{irc_line.specs.Reading.trimmed, std.proofs.Common.{length, ◌≡◌}}

abbrev pub invariant-loop-rest : goal.invariant-loop-rest
invariant-loop-rest l = trimmed l.rest ≡ trimmed l.fn.text

abbrev pub decreases-loop-rest : goal.decreases-loop-rest
decreases-loop-rest l = length l.rest
