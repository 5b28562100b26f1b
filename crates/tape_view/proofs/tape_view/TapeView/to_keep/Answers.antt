use Rattle.tape_view.proofs.Words.{arith, told}
use Rattle.tape_view.proofs.tape_view.TapeView.to_keep.Goals as goal

pub returns-clause-marked : goal.returns-clause-marked
unfolding told
returns-clause-marked g c = search arith
