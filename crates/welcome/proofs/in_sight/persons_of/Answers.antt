use Rattle.welcome.proofs.in_sight.persons_of.Goals as goal
use Rattle.welcome.proofs.{PersonsAt.persons_gathered, Words.view_sound}

pub returns : goal.returns
returns g c =
    let v = g.V.NetworkView.view c.args.view.now in
    let source = c.comes_from_lines.ensures in
    persons_gathered v (rw source.2 (view_sound source.0)) c.mapping-mapping.result
    (rw c.support.ensures at c.mapping-mapping.ensures) _ _ _ c.in_ok-persons.ensures.members
    c.sort_by_key.ensures.permutation c.sort_by_key.ensures.sorted c.keep_one_each.ensures
