use Rattle.tape_view.proofs.tape.Tape.was_made_member.Given as goal
use Rattle.tape_view.proofs.{LastLine.{IsLeft, was_made}, Words.{key, length}}

abbrev pub invariant-loop-said : goal.invariant-loop-said
invariant-loop-said g l =
    IsLeft l.tape l.channel (was_made l.self.readings (key l.self l.channel) (key l.self l.nick))
    (was_made l.tape.readings (key l.tape l.channel) (key l.tape l.name))

abbrev pub decreases-loop-said : goal.decreases-loop-said
decreases-loop-said g l = length l.tape.readings
