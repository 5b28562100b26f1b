use Rattle.irc_support.proofs.pending.Pending.of.Goals as goal
use Rattle.irc_support.proofs.PendingTokens.{Leaves-all, Leaves-gone, Leaves-nothing, Leaves-remove}
use Rattle.{irc_support.proofs.PendingTokens.Leaves-set, std.proofs.Common.{ap, length, not, refl}}
use Rattle.std.proofs.Common.{sym, ◌∙◌, ◌≡◌}

pub loop-edit-init : goal.loop-edit-init
loop-edit-init g c =
    rw (c.new-removed.ensures.empty, c.new-set.ensures.items) (Leaves-all c.args.edits.items)

pub loop-edit-preserved-in_ok-insert-in-Remove : goal.loop-edit-preserved-in_ok-insert-in-Remove
loop-edit-preserved-in_ok-insert-in-Remove g c =
    rw c.in_ok-insert-in-Remove.ensures.keys
    (Leaves-remove _ _ _ _ _ _ (rw (c.in-Some.is, c.in-Remove.is) at c.pop.ensures.items)
    c.loop-edit.invariant)

pub loop-edit-preserved-in-Continue-branch-2 : goal.loop-edit-preserved-in-Continue-branch-2
loop-edit-preserved-in-Continue-branch-2 g c =
    rw c.in_ok-push-in-Set.ensures.items
    (Leaves-set _ _ _ _ _ _ _ (rw (c.in-Some.is, c.in-Set.is) at c.pop.ensures.items)
    (rw (← c.as_slice.ensures.value) (ap not (sym c.contains.ensures ∙ c.if-not-contains.true)))
    c.loop-edit.invariant)

pub loop-edit-preserved : goal.loop-edit-preserved
loop-edit-preserved g c =
    Leaves-gone _ _ _ _ _ _ _ (rw (c.in-Some.is, c.in-Set.is) at c.pop.ensures.items)
    (rw (← c.as_slice.ensures.value) (ap not (sym c.contains.ensures ∙ c.if-not-contains.false)))
    c.loop-edit.invariant

pub returns : goal.returns
returns g c =
    let none : length c.pop.new.self.items ≡ 0 =
    rw (c.in_default.ensures.rest, c.in_default.ensures.cases.0) refl in
    Leaves-nothing _ _ _ _ _ c.in_default.ensures.items none c.loop-edit.invariant
