use Rattle.upstream.proofs.handshake.take_line.Goals as goal
use Rattle.std.proofs.Common.{refl, sym}
use Rattle.upstream.proofs.{BegunLemmas.begins_none, SentLemmas.welcome_is}

pub returns-in_err-send_any-in-Send-clause-begun : goal.returns-in_err-send_any-in-Send-clause-begun
returns-in_err-send_any-in-Send-clause-begun g c = λ network before taken.
    let answer = rw c.in-Send.is at (c.in_ok-lines.ensures.answer network before taken) in
    rw (← answer, ← c.as_slice.ensures.value) c.in_err-send_any-in-Send.ensures.begun

pub returns-in_ok-send_any-in-Send-clause-sent : goal.returns-in_ok-send_any-in-Send-clause-sent
returns-in_ok-send_any-in-Send-clause-sent g c = λ network before taken.
    let answer = rw c.in-Send.is at (c.in_ok-lines.ensures.answer network before taken) in
    rw (← answer, ← c.as_slice.ensures.value) c.in_ok-send_any-in-Send.ensures.sent

pub returns-in_ok-send_any-in-Send-clause-begun : goal.returns-in_ok-send_any-in-Send-clause-begun
returns-in_ok-send_any-in-Send-clause-begun g c = λ network before taken.
    let answer = rw c.in-Send.is at (c.in_ok-lines.ensures.answer network before taken) in
    rw (← answer, ← c.as_slice.ensures.value) c.in_ok-send_any-in-Send.ensures.begun

pub returns-in_ok-send_any-in-Send-clause-ended : goal.returns-in_ok-send_any-in-Send-clause-ended
returns-in_ok-send_any-in-Send-clause-ended g c = λ network before taken.
    let answer = rw c.in-Send.is at (c.in_ok-lines.ensures.answer network before taken) in
    rw (← answer) refl

pub returns-in_err-send-in-Done-clause-begun : goal.returns-in_err-send-in-Done-clause-begun
returns-in_err-send-in-Done-clause-begun g c = λ network before taken.
    let answer = rw c.in-Done.is at (c.in_ok-lines.ensures.answer network before taken) in
    rw (← answer, ← c.as_slice-in-Done.ensures.value) c.in_err-send-in-Done.ensures.begun

pub returns-in_ok-send-in-Done-clause-sent : goal.returns-in_ok-send-in-Done-clause-sent
returns-in_ok-send-in-Done-clause-sent g c = λ network before taken.
    let answer = rw c.in-Done.is at (c.in_ok-lines.ensures.answer network before taken) in
    rw (← answer, ← c.as_slice-in-Done.ensures.value) c.in_ok-send-in-Done.ensures.sent

pub returns-in_ok-send-in-Done-clause-begun : goal.returns-in_ok-send-in-Done-clause-begun
returns-in_ok-send-in-Done-clause-begun g c = λ network before taken.
    let answer = rw c.in-Done.is at (c.in_ok-lines.ensures.answer network before taken) in
    rw (← answer, ← c.as_slice-in-Done.ensures.value) c.in_ok-send-in-Done.ensures.begun

pub returns-in_ok-send-in-Done-clause-ended : goal.returns-in_ok-send-in-Done-clause-ended
returns-in_ok-send-in-Done-clause-ended g c = λ network before taken.
    welcome_is network before c.args.line.now c.in-Done.lines.items
    (rw c.in-Done.is at (c.in_ok-lines.ensures.answer network before taken))

pub returns-in-Fault-clause-begun : goal.returns-in-Fault-clause-begun
returns-in-Fault-clause-begun g c = λ network before taken.
    begins_none (g.W.Write.contents c.args.writer.now) _

pub returns-in-Fault-clause-err : goal.returns-in-Fault-clause-err
returns-in-Fault-clause-err g c = λ network before taken.
    sym (rw c.in-Fault.is at (c.in_ok-lines.ensures.answer network before taken))
