use Rattle.tape_view.proofs.tape_view.TapeViewNetworkView.member_at.Goals as goal
use Rattle.tape_view.proofs.{Readers.{is_spelled, member_there, shown}, Words.arith}

pub returns-in_err-member : goal.returns-in_err-member
returns-in_err-member g c =
    grind (arith, shown c.args.self.now c.args.i c.tape-tape.ensures.value c.in_ok-channel.ensures)

pub returns-in_err-nick : goal.returns-in_err-nick
returns-in_err-nick g c =
    absurd (is_spelled _ _ c.tape-tape.ensures.value c.in_ok-channel.ensures _ _
    c.in_ok-member.ensures c.in_err-nick.ensures)

pub returns : goal.returns
returns g c =
    let there = member_there _ _ c.tape-tape.ensures.value c.in_ok-channel.ensures c.args.j _ _
    c.in_ok-member.ensures c.in_ok-nick.ensures in
    grind (arith, there)
