use Rattle.tape_view.proofs.tape_view.TapeViewNetworkView.mode_at.Goals as goal
use Rattle.tape_view.proofs.{Readers.{mode_there, shown}, Words.arith}

pub returns-in_err-letter : goal.returns-in_err-letter
returns-in_err-letter g c =
    grind (arith, shown c.args.self.now c.args.i c.tape-tape.ensures.value c.in_ok-channel.ensures)

pub returns-in_err-param : goal.returns-in_err-param
returns-in_err-param g c =
    grind (arith, mode_there _ _ c.tape-tape.ensures.value c.in_ok-channel.ensures c.args.j)

pub returns : goal.returns
returns g c =
    grind (arith, mode_there _ _ c.tape-tape.ensures.value c.in_ok-channel.ensures c.args.j)
