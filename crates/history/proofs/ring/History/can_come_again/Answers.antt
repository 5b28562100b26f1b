use Rattle.history.proofs.ring.History.can_come_again.Goals as goal
use Rattle.history.proofs.ComingAgain.{can_again}
use Rattle.std.proofs.Common.{nat_cmp, subst}
use Rattle.std.specs.{List.Sorted.IsStrictlySortedBy, Map.keys_of}

pub returns : goal.returns
returns g c =
    let rise = subst (λ kept. IsStrictlySortedBy nat_cmp (keys_of kept)) c.messages.ensures
    c.iter-order.ensures.ordered in
    rw (← c.self.view_is) (can_again c.self.inside.capacity c.self.inside.kept c.self.inside.next
    c.self.inside.targets c.self.inside.persons c.self.invariant rise c.count-count.ensures.few
    c.count-count.ensures.each c.count-persons.ensures.few c.count-persons.ensures.each)
