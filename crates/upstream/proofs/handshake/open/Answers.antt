use Rattle.upstream.proofs.handshake.open.Goals as goal

pub returns-clause-sent : goal.returns-clause-sent
returns-clause-sent g c =
    rw (c.as_slice.ensures.value, c.in_ok-register.ensures.sent) at c.in_ok-send.ensures.sent

pub returns-clause-begun : goal.returns-clause-begun
returns-clause-begun g c =
    rw (c.as_slice.ensures.value, c.in_ok-register.ensures.sent) at c.in_ok-send.ensures.begun
