use Rattle.std.proofs.Common.{refl}
use Rattle.tape_view.proofs.TapeBytes.{bytes_more, bytes_none}
use Rattle.tape_view.proofs.bytes.kept_bytes.Goals as goal
use Rattle.tape_view.specs.Weights.{line_bytes, line_cost}

pub loop-k-init : goal.loop-k-init
loop-k-init g c = rw (bytes_none g.row.A.Denot) refl

pub loop-k-preserved : goal.loop-k-preserved
loop-k-preserved g c =
    rw (bytes_more c.args.kept.now c.loop-k.k-index c.k-item.result c.loop-k-test.true c.k-item.is)
    (c.more-bytes.ensures _ _ c.loop-k.invariant
    (c.more.ensures line_cost (line_bytes c.k-item.result.line) refl c.line_bytes.ensures))
