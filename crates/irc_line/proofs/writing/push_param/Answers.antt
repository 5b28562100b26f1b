use Rattle.irc_line.proofs.writing.push_param.Goals as goal
use Rattle.std.proofs.{Common.arith, lemmas.Grind.common_steps}

pub returns-clause-ok : goal.returns-clause-ok
returns-clause-ok g c = grind (arith, common_steps)
