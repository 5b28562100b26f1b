use Rattle.tape_view.proofs.tape.Tape.is_in_sight.Goals as goal
use Rattle.tape_view.proofs.{SightLine.{none_seen, one_joined}, Words.arith}

pub loop-said-preserved-else-is_member : goal.loop-said-preserved-else-is_member
loop-said-preserved-else-is_member g c =
    one_joined c.in-Some.ensures.last _ _ _ c.in-Some-joined_by_us.ensures (cc c.is_member.ensures)
    c.loop-said.invariant

pub returns : goal.returns
returns g c =
    grind (arith, none_seen _ _ _ c.loop-said.invariant c.in_default.ensures.none)
