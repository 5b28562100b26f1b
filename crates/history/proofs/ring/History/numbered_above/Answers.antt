use Rattle.history.proofs.ring.History.numbered_above.Goals as goal
use Rattle.{history.proofs.Missed.entries-above, std.proofs.Common.arith}

pub loop-item-init : goal.loop-item-init
loop-item-init g c = grind (arith, entries-above c.args.mark c.self.inside.kept)
