use Rattle.upstream.proofs.Ends.{ended_step, nothing_more}
use Rattle.upstream.proofs.laws.a_registration_ends_once.Goals as goal

pub returns-clause-step : goal.returns-clause-step
returns-clause-step c = ended_step

pub returns-clause-nothing_more : goal.returns-clause-nothing_more
returns-clause-nothing_more c = nothing_more
