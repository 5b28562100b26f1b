use Rattle.client_caps.proofs.time.day_text.Goals as goal
use Rattle.client_caps.proofs.Days.{date_is}
use Rattle.std.proofs.Common.{arith}

pub returns : goal.returns
returns c = grind (arith, date_is)
