use Rattle.welcome.proofs.backlog.push_end.Goals as goal
use Rattle.std.proofs.Common.{rules}

pub returns : goal.returns
returns g c = search rules
