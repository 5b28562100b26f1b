use Rattle.irc_line.proofs.splitter.read_lines.Given as goal
use Rattle.{irc_line.proofs.ReadOn.IsReadTo, std.proofs.Common.length}

abbrev pub invariant-loop-segment : goal.invariant-loop-segment
invariant-loop-segment g l = IsReadTo l.fn.out.items l.fn.bytes l.out.items l.rest l.skipped

abbrev pub decreases-loop-segment : goal.decreases-loop-segment
decreases-loop-segment g l = length l.rest
