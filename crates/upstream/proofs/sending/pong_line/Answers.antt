use Rattle.upstream.proofs.Writable.{pong_is_writable}
use Rattle.upstream.proofs.sending.pong_line.Goals as goal
use Rattle.std.proofs.Common.{append-nil}

pub command-requires-2 : goal.command-requires-2
command-requires-2 c =
    let all = rw (c.in-None.ensures.steps.0, append-nil) at c.loop-param.invariant in
    rw (c.as_slice.ensures.value, all)
    (pong_is_writable c.args.ping.now c.command.ensures.writable)

pub returns : goal.returns
returns c =
    let all = rw (c.in-None.ensures.steps.0, append-nil) at c.loop-param.invariant in
    rw (c.as_slice.ensures.value, all) at c.command-2.ensures
