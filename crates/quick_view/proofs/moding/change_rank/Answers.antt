use Rattle.quick_view.proofs.moding.change_rank.Goals as goal
use Rattle.irc_support.specs.ChangeShown.{shown_change}
use Rattle.quick_view.proofs.LastLemmas.{change_said, rank_none, rank_some}

pub returns-in_default-get_near : goal.returns-in_default-get_near
returns-in_default-get_near g c = λ n.
    let said = change_said _ (shown_change c.args.change) _ c.in-Some-param.nick.now _
    (rw c.in-Some.is at c.rank_of_letter.ensures.value) (rw c.in-Some-param.is)
    (rw c.if-not-is_nameable.false at c.is_nameable.ensures) c.mapping.ensures in
    rw (← said) (rank_none _ _ (rw c.in_default-get_near.is at c.get_near.ensures) n)

pub returns : goal.returns
returns g c = λ n.
    let said = change_said _ (shown_change c.args.change) _ c.in-Some-param.nick.now _
    (rw c.in-Some.is at c.rank_of_letter.ensures.value) (rw c.in-Some-param.is)
    (rw c.if-not-is_nameable.false at c.is_nameable.ensures) c.mapping.ensures in
    rw (← said) (rank_some _ _ _ _ _ (rw c.in-Some-get_near.is at c.get_near.ensures)
    c.swap.ensures.all c.with_change-changed.ensures n)
