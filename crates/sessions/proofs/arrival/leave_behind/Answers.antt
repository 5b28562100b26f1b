use Rattle.sessions.proofs.arrival.leave_behind.Goals as goal
use Rattle.std.proofs.{Common.arith, lemmas.Grind.common_steps}

pub returns : goal.returns
returns c = grind (arith, common_steps)
