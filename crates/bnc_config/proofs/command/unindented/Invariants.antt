use Rattle.bnc_config.proofs.command.unindented.Given as goal
use Rattle.{bnc_config.specs.Command.unindented, std.proofs.Common.{length, ◌≡◌}}

abbrev pub invariant-loop-rest : goal.invariant-loop-rest
invariant-loop-rest l = unindented l.rest ≡ unindented l.fn.text

abbrev pub decreases-loop-rest : goal.decreases-loop-rest
decreases-loop-rest l = length l.rest
