use Rattle.tape_view.proofs.tape_view.TapeView.new.Goals as goal
use Rattle.tape_view.proofs.{TapeLast.tape_none, Words.{IsMarkedTape, arith, tape_of}}

pub returns : goal.returns
returns g c = grind (arith, tape_none)

pub invariant_of-result : goal.invariant_of-result
unfolding tape_of IsMarkedTape
invariant_of-result g c = grind arith
