use Rattle.std.proofs.Common.{◌∙◌, sym}
use Rattle.sessions.proofs.Held.{caps_after_text, negotiated, unchanged}
use Rattle.sessions.proofs.negotiation.Negotiation.after.Goals as goal

pub returns-in-Offered : goal.returns-in-Offered
returns-in-Offered c = λ before at.
    negotiated before c.args.line.now c.args.self _ (sym c.in-Offered.is ∙ c.of.ensures) at

pub returns-in-Change : goal.returns-in-Change
returns-in-Change c = λ before at.
    rw (c.unwrap_or.ensures, c.read_request.ensures, c.asked_text.ensures.text, caps_after_text)
    (negotiated before c.args.line.now c.args.self _ (sym c.in-Change.is ∙ c.of.ensures) at)

pub returns-in-End : goal.returns-in-End
returns-in-End c = λ before at.
    negotiated before c.args.line.now c.args.self _ (sym c.in-End.is ∙ c.of.ensures) at

pub returns-in_default : goal.returns-in_default
returns-in_default c = λ before at.
    unchanged c.args.line.now c.args.self c.of.result c.in_default.not-Offered
    c.in_default.not-Change c.in_default.not-End
    ∙ negotiated before c.args.line.now c.args.self c.of.result c.of.ensures at
