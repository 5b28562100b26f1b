use Rattle.welcome.proofs.channel.push_letters.Goals as goal
use Rattle.std.proofs.Common.{arith}
use Rattle.std.proofs.lemmas.Grind.{common_steps}

pub loop-letter-preserved : goal.loop-letter-preserved
loop-letter-preserved g c = grind (arith, common_steps)
