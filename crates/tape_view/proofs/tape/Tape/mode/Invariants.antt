use Rattle.tape_view.proofs.tape.Tape.mode.Given as goal
use Rattle.tape_view.proofs.{LastLine.IsLeft, Words.{key, length, mode_of}}

abbrev pub invariant-loop-said : goal.invariant-loop-said
invariant-loop-said g l =
    IsLeft l.tape l.channel (mode_of l.self.readings (key l.self l.channel) l.letter)
    (mode_of l.tape.readings (key l.tape l.channel) l.letter)

abbrev pub decreases-loop-said : goal.decreases-loop-said
decreases-loop-said g l = length l.tape.readings
