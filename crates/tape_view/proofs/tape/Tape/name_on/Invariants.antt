use Rattle.tape_view.proofs.Words.{◌≡◌, length, name_on, key}
use Rattle.tape_view.proofs.tape.Tape.name_on.Given as goal

abbrev pub invariant-loop-said : goal.invariant-loop-said
invariant-loop-said g l =
    name_on l.self.readings (key l.self l.channel) ≡ name_on l.tape.readings (key l.tape l.channel)

abbrev pub decreases-loop-said : goal.decreases-loop-said
decreases-loop-said g l = length l.tape.readings
