use Rattle.tape_view.proofs.tape_view.TapeViewNetworkView.take.Goals as goal
use Rattle.net_view.proofs.{Commands.is_read, StepLaw.view_unchanged}
use Rattle.tape_view.proofs.{TapeTake.loss_kept, Words.{arith, nat_tests}}

pub returns-in_default-clause-taken : goal.returns-in_default-clause-taken
returns-in_default-clause-taken g c items e = grind (arith, view_unchanged, is_read c.in-Line.line)

pub returns-in_err-keep-in-Line-clause-free : goal.returns-in_err-keep-in-Line-clause-free
returns-in_err-keep-in-Line-clause-free g c e = grind (arith, is_read c.in-Line.line)

pub invariant_of-self : goal.invariant_of-self
invariant_of-self g c =
    loss_kept _ _ _ (grind (arith, nat_tests, c.self.inside.kept.ok.0))
    c.index_mut.ensures.value _ _ c.self.invariant
