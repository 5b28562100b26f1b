use Rattle.irc_line.proofs.writing.are_all_params.Goals as goal
use Rattle.std.proofs.{Common.arith, lemmas.Grind.common_steps}

pub loop-rest-preserved : goal.loop-rest-preserved
loop-rest-preserved c = grind (arith, common_steps)
