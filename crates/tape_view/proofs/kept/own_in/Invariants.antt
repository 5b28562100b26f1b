use Rattle.tape_view.proofs.Words.{◌≡◌, length, own_nick, tape_of, IsMarkedTape}
use Rattle.tape_view.proofs.kept.own_in.Given as goal

abbrev pub invariant-loop-left : goal.invariant-loop-left
invariant-loop-left g l = record {
  marked : IsMarkedTape l.left;
  rest : own_nick (tape_of l.kept) ≡ own_nick (tape_of l.left);
}

abbrev pub decreases-loop-left : goal.decreases-loop-left
decreases-loop-left g l = length l.left
