use Rattle.std.proofs.Common.{refl}
use Rattle.upstream.proofs.Accounts.{answers_alike}
use Rattle.upstream.proofs.laws.the_password_is_sent_for_one_line.Goals as goal

pub returns-clause-not_first : goal.returns-clause-not_first
returns-clause-not_first c = λ network one other. refl

pub returns-clause-else_alike : goal.returns-clause-else_alike
returns-clause-else_alike c = answers_alike
