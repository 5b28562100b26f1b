use Rattle.welcome.proofs.others.push_visits.Goals as goal
use Rattle.welcome.proofs.VisitsAdded.{visits_added}
use Rattle.welcome.proofs.Words.{map, on_ok_weaker}

pub returns : goal.returns
returns g c =
    on_ok_weaker c.push_group_entries.result (λ said. visits_added c.args.playing
    (g.V.NetworkView.view c.args.view.now) c.args.caps (map (λ entry. entry.now) c.args.others.now)
    (λ group. map (λ entry. entry.now) group.items) c.in_ok-channels.channels.items
    c.in_ok-persons.persons.items _ _ _ c.in_ok-channels.ensures c.in_ok-persons.ensures
    (rw c.deref.ensures.value at c.in_ok-push_groups_from.ensures)
    (rw c.deref-2.ensures.value at said)) c.push_group_entries.ensures
