use Rattle.std.proofs.Common.{rules}
use Rattle.irc_support.proofs.support.mapping_by_name.Goals as goal

pub returns-else-eq-2 : goal.returns-else-eq-2
returns-else-eq-2 c = search rules
