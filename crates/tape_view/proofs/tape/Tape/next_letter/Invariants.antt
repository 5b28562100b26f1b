use Rattle.tape_view.proofs.Words.{◌≡◌, true, length, nat_cmp, is_on, key, is_set}
use Rattle.tape_view.proofs.tape.Tape.next_letter.Given as goal
use Rattle.tape_view.proofs.NextKey.{IsNextSoFar}

abbrev pub invariant-loop-said : goal.invariant-loop-said
invariant-loop-said g l = record {
  on : is_on l.tape.readings (key l.tape l.channel) ≡ true;
  so_far : IsNextSoFar nat_cmp (λ tape. is_set tape.readings (key tape l.channel)) l.self l.tape
      l.after l.best;
}

abbrev pub decreases-loop-said : goal.decreases-loop-said
decreases-loop-said g l = length l.tape.readings
