use Rattle.tape_view.proofs.tape.Tape.is_in_sight.Given as goal
use Rattle.tape_view.proofs.{SightLine.AreOn, Words.length}

abbrev pub invariant-loop-said : goal.invariant-loop-said
invariant-loop-said g l = AreOn l.self l.tape l.nick

abbrev pub decreases-loop-said : goal.decreases-loop-said
decreases-loop-said g l = length l.tape.readings
