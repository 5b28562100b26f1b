use Rattle.history.proofs.entry.Entry.with_room.Goals as goal
use Rattle.std.proofs.{Common.arith, lemmas.Grind.common_steps}

pub returns : goal.returns
returns g c = grind (arith, common_steps)
