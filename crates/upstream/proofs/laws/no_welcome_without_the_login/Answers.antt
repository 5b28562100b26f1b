use Rattle.upstream.proofs.Accounts.{welcome_after_login}
use Rattle.upstream.proofs.laws.no_welcome_without_the_login.Goals as goal

pub returns : goal.returns
returns c = welcome_after_login
