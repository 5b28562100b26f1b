use Rattle.irc_support.proofs.pending.Pending.of.Given as goal
use Rattle.{irc_support.proofs.PendingTokens.Leaves, std.proofs.Common.length}

abbrev pub invariant-loop-edit : goal.invariant-loop-edit
invariant-loop-edit g l = Leaves l.initial.left.items l.removed.keys l.set.items l.left.items

abbrev pub decreases-loop-edit : goal.decreases-loop-edit
decreases-loop-edit g l = length l.left.items
