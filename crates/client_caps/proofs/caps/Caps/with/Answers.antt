use Rattle.client_caps.proofs.caps.Caps.with.Goals as goal
use Rattle.std.proofs.Common.{rules}

pub returns-in-ServerTime : goal.returns-in-ServerTime
returns-in-ServerTime c = search rules
