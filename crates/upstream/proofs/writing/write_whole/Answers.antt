use Rattle.upstream.proofs.BegunLemmas.{begins_kept, begun_part, written_on}
use Rattle.upstream.proofs.writing.write_whole.Goals as goal

pub loop-preserved : goal.loop-preserved
loop-preserved g c =
    written_on c.args.bytes.now c.loop.done c.in_ok-done.field-0
    (g.W.Write.contents c.args.writer.now) (g.W.Write.contents c.loop.writer)
    (g.W.Write.contents c.write_some.new.writer)
    c.loop.invariant.0 c.loop.invariant.1
    c.in_ok-done.ensures.took.0 c.in_ok-done.ensures.took.1

pub returns-in_err-done-clause-begun : goal.returns-in_err-done-clause-begun
returns-in_err-done-clause-begun g c =
    begins_kept (g.W.Write.contents c.args.writer.now) (g.W.Write.contents c.loop.writer)
    (g.W.Write.contents c.write_some.new.writer) c.args.bytes.now
    (begun_part c.args.bytes.now c.loop.done _ _ c.loop.invariant.1)
    c.in_err-done.ensures.fault.1

pub returns-clause-begun : goal.returns-clause-begun
returns-clause-begun g c =
    begun_part c.args.bytes.now c.loop.done _ _ c.loop.invariant.1
