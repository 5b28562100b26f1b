use Rattle.hub_core.proofs.session.Session.send.Goals as goal
use Rattle.hub_core.proofs.Words.{rules}

pub returns-clause-sent : goal.returns-clause-sent
returns-clause-sent g c = search rules
