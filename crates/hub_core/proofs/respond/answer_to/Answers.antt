use Rattle.hub_core.proofs.respond.answer_to.Goals as goal
use Rattle.client_caps.proofs.AnswerTexts.{own_nameable}

pub answer-requires : goal.answer-requires
answer-requires g c =
    own_nameable (g.V.NetworkView.view c.args.view.now) c.comes_from_lines.ensures c.own.result
    c.own.ensures
