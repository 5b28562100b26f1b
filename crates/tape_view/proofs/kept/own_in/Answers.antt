use Rattle.tape_view.proofs.kept.own_in.Goals as goal
use Rattle.tape_view.proofs.{TapeLast.own_last, Words.arith}

pub returns-in-Some : goal.returns-in-Some
returns-in-Some g c =
    cc (own_last _ _ c.in-len1-up.len_at_least c.last-item.is _ _ c.told_as.ensures
    c.loop-left.invariant.marked c.in-Some.ensures).0

pub loop-left-preserved : goal.loop-left-preserved
loop-left-preserved g c =
    let last = own_last _ _ c.in-len1-up.len_at_least c.last-item.is _ _ c.told_as.ensures
    c.loop-left.invariant.marked c.in_default-own_told.ensures in
    grind (arith, last)
