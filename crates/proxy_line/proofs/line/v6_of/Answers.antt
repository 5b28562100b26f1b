use Rattle.proxy_line.proofs.Families.{no_v6}
use Rattle.proxy_line.proofs.line.v6_of.Goals as goal

pub returns-in-Err-clause-none : goal.returns-in-Err-clause-none
returns-in-Err-clause-none c = no_v6 c.args.text.now c.in-Err.ensures
