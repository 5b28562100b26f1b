use Rattle.client_caps.proofs.answers.name_shown.Goals as goal
use Rattle.{client_caps.proofs.AnswerTexts.name_can_stand, std.proofs.Common.refl}

pub returns-clause-clean : goal.returns-clause-clean
returns-clause-clean c = rw c.unwrap_or.ensures ((name_can_stand c.args.nick _ refl c.requires).1)
