use Rattle.welcome.proofs.in_sight.push_members.Given as goal
use Rattle.welcome.proofs.Words.{◌++◌, ◌≡◌, AllByRecursion, HasHead, length, map, member_parts_at}
use Rattle.welcome.proofs.Words.{person_lent, person_shown}

abbrev pub invariant-loop-member : goal.invariant-loop-member
invariant-loop-member g l = record {
  members : map person_lent l.fn.persons.items
      ++ map person_shown (member_parts_at (g.V.NetworkView.view l.view) l.i)
      ≡ map person_lent l.persons.items ++ map person_shown l.members;
  heads : AllByRecursion (HasHead l.mapping) l.persons.items;
}

abbrev pub decreases-loop-member : goal.decreases-loop-member
decreases-loop-member g l = length l.members
