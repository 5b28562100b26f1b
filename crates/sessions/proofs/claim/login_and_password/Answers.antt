use Rattle.std.proofs.Common.{rules}
use Rattle.sessions.proofs.claim.login_and_password.Goals as goal

pub returns-in_default-Some-clause-password : goal.returns-in_default-Some-clause-password
returns-in_default-Some-clause-password c = search rules
