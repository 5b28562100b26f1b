use Rattle.welcome.proofs.in_sight.by_head.Goals as goal
use Rattle.std.proofs.Common.{rules}

pub returns-in-Equal : goal.returns-in-Equal
returns-in-Equal c = search rules
