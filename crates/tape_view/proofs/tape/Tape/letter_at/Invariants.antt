use Rattle.tape_view.proofs.Words.{◌≡◌, key, letter_shown}
use Rattle.tape_view.proofs.tape.Tape.letter_at.Given as goal

abbrev pub invariant-loop-place : goal.invariant-loop-place
invariant-loop-place g l = l.at ≡ letter_shown l.self.readings (key l.self l.channel) l._place
