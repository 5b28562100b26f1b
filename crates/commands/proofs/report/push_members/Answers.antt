use Rattle.std.proofs.Common.{◌++◌, ap, sym, ◌∙◌, append-nil}
use Rattle.commands.proofs.ReportLemmas.{members_are, members_text}
use Rattle.commands.proofs.report.push_members.Goals as goal

pub returns : goal.returns
returns g c =
    let v = g.V.NetworkView.view c.args.view.now in
    let now = c.loop-member.report.items in
    sym (append-nil now) ∙ ap (λ ms. now ++ members_text v ms) (sym c.in_default.ensures.0)
    ∙ sym c.loop-member.invariant
    ∙ ap (λ t. c.args.report.now.items ++ t) (members_are v c.args.i)
