use Rattle.std.proofs.Common.{rules}
use Rattle.sessions.proofs.attending.leave_by.Goals as goal

pub returns-in-Ok-Quit : goal.returns-in-Ok-Quit
returns-in-Ok-Quit c = search rules
