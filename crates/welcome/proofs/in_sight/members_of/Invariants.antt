use Rattle.welcome.proofs.in_sight.members_of.Given as goal
use Rattle.welcome.proofs.PersonsAt.{◌≡◌, AllByRecursion, HasHead, map, person_lent, persons_so_far}

abbrev pub invariant-loop-i : goal.invariant-loop-i
invariant-loop-i g l =
    (map person_lent l.persons.items ≡ persons_so_far (g.V.NetworkView.view l.view) l.i)
    × AllByRecursion (HasHead l.mapping) l.persons.items
