use Rattle.std.proofs.Common.{rules}
use Rattle.sessions.proofs.sending.deny.Goals as goal

pub returns : goal.returns
returns g c = search rules
