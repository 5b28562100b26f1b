use Rattle.upstream.specs.declared.handshake.DialFault.TheVariants as fault
use Rattle.upstream.proofs.writing.send.Goals as goal
use Rattle.irc_line.{proofs.Outcomes.{not_ok, refused_by}, specs.Writing.bytes_of}
use Rattle.std.proofs.{Common.arith, KnownBytes.Appends-kept, lemmas.List.take_all}
use Rattle.upstream.{proofs.BegunLemmas.begins_none, specs.Handshake.IsSendCause}

pub returns-in_err-write-clause-sent : goal.returns-in_err-write-clause-sent
returns-in_err-write-clause-sent g c =
    not_ok _ c.from_residual.result c.from_residual.ensures.0

pub returns-in_err-write-clause-err : goal.returns-in_err-write-clause-err
returns-in_err-write-clause-err g c =
    refused_by c.from_residual.result IsSendCause fault.Memory c.from_residual.ensures.1 tt

pub returns-clause-sent : goal.returns-clause-sent
returns-clause-sent g c =
    let all = take_all c.loop-line.line-index c.args.lines.now
    (omega (arith, c.loop-line-test.false)) in
    rw (c.as_slice.ensures.value, c.loop-line.invariant, all)
    at (Appends-kept _ _ _ c.as_slice.result.now c.in_ok-write_whole.ensures.whole
    c.flush.ensures.bytes)

pub returns-in_err-write-clause-begun : goal.returns-in_err-write-clause-begun
returns-in_err-write-clause-begun g c =
    begins_none (g.W.Write.contents c.args.writer.now) (bytes_of c.args.lines.now)
