use Rattle.std.proofs.Common.{rules}
use Rattle.irc_support.proofs.kind.Kind.takes_parameter.Goals as goal

pub returns-in-C : goal.returns-in-C
returns-in-C c = search rules
