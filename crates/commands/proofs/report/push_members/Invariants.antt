use Rattle.commands.proofs.report.push_members.Given as goal
use Rattle.{commands.proofs.ReportLemmas.members_text, net_view.specs.Walks.member_parts_at}
use Rattle.std.proofs.Common.{length, ◌++◌, ◌≡◌}

abbrev pub invariant-loop-member : goal.invariant-loop-member
invariant-loop-member g l =
    let v = g.V.NetworkView.view l.view in
    l.fn.report.items ++ members_text v (member_parts_at v l.i)
    ≡ l.report.items ++ members_text v l.members

abbrev pub decreases-loop-member : goal.decreases-loop-member
decreases-loop-member g l = length l.members
