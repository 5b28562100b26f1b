use Rattle.client_caps.proofs.answers.answer.Goals as goal
use Rattle.std.proofs.Common.{rules}

pub returns : goal.returns
returns g c = search rules
