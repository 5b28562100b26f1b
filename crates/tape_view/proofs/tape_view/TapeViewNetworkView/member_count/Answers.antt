use Rattle.tape_view.proofs.tape_view.TapeViewNetworkView.member_count.Goals as goal
use Rattle.tape_view.proofs.{Readers.shown, Words.arith}

pub returns-in-Some : goal.returns-in-Some
returns-in-Some g c =
    grind (arith, shown c.args.self.now c.args.i c.tape-tape.ensures.value c.in-Some.ensures)
