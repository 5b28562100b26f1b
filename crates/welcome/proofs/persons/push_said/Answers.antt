use Rattle.welcome.proofs.persons.push_said.Goals as goal
use Rattle.std.proofs.Common.{rules}

pub returns-in_default : goal.returns-in_default
returns-in_default g c = search rules
