use Rattle.std.proofs.Common.{rules}
use Rattle.sessions.proofs.serving.serve.Goals as goal

pub returns-in-Ok-end_seen-clause-heard : goal.returns-in-Ok-end_seen-clause-heard
returns-in-Ok-end_seen-clause-heard g c = search rules
