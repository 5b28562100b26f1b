use Rattle.net_view.proofs.walk.Members.next.Goals as goal
use Rattle.net_view.{proofs.Walks.{first_left, member_here, member_lent}, specs.Walks.parts_of}
use Rattle.{net_view.specs.{Readers.member_shown, Walks.member_parts_at}, std.proofs.Common.◌∙◌}

pub returns : goal.returns
returns g c =
    let v = g.V.NetworkView.view c.self.inside.view.now in
    let i = c.self.inside.channel in
    let j = c.self.inside.place in
    let lent = c.member_at-member.ensures in
    rw (← c.self.view_is)
    (first_left parts_of (member_parts_at v i) j _ (member_lent (member_shown v i j)
    c.member_at-member.result lent.nick lent.ranks lent.account lent.away ∙ member_here v i j))
