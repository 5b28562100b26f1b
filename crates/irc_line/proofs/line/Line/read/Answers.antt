use Rattle.irc_line.proofs.Spelled.{found-of, none-of}
use Rattle.irc_line.proofs.line.Line.read.Goals as goal

pub returns-clause-found : goal.returns-clause-found
returns-clause-found g c = found-of c.parse.result c.args.text.now c.parse.ensures

pub returns-clause-none : goal.returns-clause-none
returns-clause-none g c = none-of c.parse.result c.args.text.now c.parse.ensures
