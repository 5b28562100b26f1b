use Rattle.irc_support.proofs.prefix.are_distinct.Given as goal
use Rattle.{irc_support.specs.Text.is_distinct, std.proofs.Common.{length, ◌≡◌}}

abbrev pub invariant-loop-rest : goal.invariant-loop-rest
invariant-loop-rest l = is_distinct l.rest ≡ is_distinct l.text

abbrev pub decreases-loop-rest : goal.decreases-loop-rest
decreases-loop-rest l = length l.rest
