use Rattle.welcome.proofs.visits.spelled_there.Given as goal
use Rattle.std.specs.List.{find}
use Rattle.welcome.proofs.Words.{◌≡◌, key_by, length, member_parts_at, same}

-- the first that is found is among those that are left
abbrev pub invariant-loop-member : goal.invariant-loop-member
invariant-loop-member g l =
    let settings = (g.V.NetworkView.view l.view).settings in
    find (λ m. same (key_by settings m.nick) (key_by settings l.own)) l.members
    ≡ find (λ m. same (key_by settings m.nick) (key_by settings l.own))
    (member_parts_at (g.V.NetworkView.view l.view) 0)

abbrev pub decreases-loop-member : goal.decreases-loop-member
decreases-loop-member g l = length l.members
