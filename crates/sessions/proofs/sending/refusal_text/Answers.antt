use Rattle.std.proofs.Common.{rules}
use Rattle.sessions.proofs.sending.refusal_text.Goals as goal

pub returns-in-Full : goal.returns-in-Full
returns-in-Full c = search rules
