use Rattle.quick_view.proofs.table_view.TableViewNetworkView.member_at.Goals as goal
use Rattle.quick_view.proofs.ReadLemmas.{never_unknown}

pub unreachable-requires : goal.unreachable-requires
unreachable-requires g c =
    never_unknown c.self.inside.state c.args.i c.args.j
    _ (rw c.in-Some.is at c.at.ensures) c.self.invariant
    _ (rw c.in-Some-at.is at c.at-2.ensures) (rw c.in-None.is at c.get_near.ensures)
