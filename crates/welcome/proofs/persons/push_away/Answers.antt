use Rattle.welcome.proofs.persons.push_away.Goals as goal
use Rattle.std.proofs.Common.{rules}

pub returns-in-None : goal.returns-in-None
returns-in-None g c = search rules
