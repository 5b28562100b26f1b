use Rattle.tape_view.proofs.Words.{◌≡◌, true, length, in_sight, known, key, says_of}
use Rattle.tape_view.proofs.tape.Tape.fact.Given as goal

abbrev pub invariant-loop-said : goal.invariant-loop-said
invariant-loop-said g l = record {
  seen : in_sight l.tape.readings (key l.tape l.name) ≡ true;
  rest : known (says_of l.fact) l.self.readings (key l.self l.nick)
      ≡ known (says_of l.fact) l.tape.readings (key l.tape l.name);
}

abbrev pub decreases-loop-said : goal.decreases-loop-said
decreases-loop-said g l = length l.tape.readings
