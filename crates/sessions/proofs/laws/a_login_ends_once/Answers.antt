use Rattle.sessions.proofs.Ends.{ended_step, nothing_more}
use Rattle.sessions.proofs.laws.a_login_ends_once.Goals as goal

pub returns-clause-step : goal.returns-clause-step
returns-clause-step c = ended_step

pub returns-clause-nothing_more : goal.returns-clause-nothing_more
returns-clause-nothing_more c = nothing_more
