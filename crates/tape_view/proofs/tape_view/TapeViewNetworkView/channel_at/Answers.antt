use Rattle.tape_view.proofs.tape_view.TapeViewNetworkView.channel_at.Goals as goal
use Rattle.tape_view.proofs.{Readers.shown, Words.arith}

pub returns-in_err-name : goal.returns-in_err-name
returns-in_err-name g c =
    grind (arith, shown c.args.self.now c.args.i c.tape-tape.ensures.value c.in_ok-channel.ensures)

pub returns : goal.returns
returns g c =
    grind (arith, shown c.args.self.now c.args.i c.tape-tape.ensures.value c.in_ok-channel.ensures)
