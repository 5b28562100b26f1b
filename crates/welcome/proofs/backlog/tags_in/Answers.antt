use Rattle.welcome.proofs.backlog.tags_in.Goals as goal
use Rattle.std.proofs.Common.{arith}
use Rattle.std.proofs.lemmas.Grind.{common_steps}

pub returns : goal.returns
returns g c = grind (arith, common_steps)
