use Rattle.tape_view.proofs.tape.Tape.split_last.Goals as goal
use Rattle.tape_view.proofs.{TapeLast.{is_last, readable_older}, Words.arith}

pub invariant_of-older : goal.invariant_of-older
invariant_of-older g c = search (arith, readable_older)

pub returns-clause-last : goal.returns-clause-last
returns-clause-last g c = search (arith, is_last)

pub returns-clause-shorter : goal.returns-clause-shorter
returns-clause-shorter g c = search (arith, returns-clause-last g c)
