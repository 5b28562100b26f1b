use Rattle.network_tables.proofs.marks.marks_of.Goals as goal
use Rattle.network_tables.{proofs.MarkLemmas.{all_marked, marked_next}, specs.Table.entry_of}
use Rattle.std.proofs.Common.{arith}

pub loop-place-init : goal.loop-place-init
loop-place-init g c = λ j d l. absurd (omega (arith, l))

pub loop-place-preserved : goal.loop-place-preserved
loop-place-preserved g c =
    marked_next entry_of _ _ _ _ _ _ (rw c.len-place-end.ensures at c.loop-place-test.true)
    c.at.ensures c.at.result.now.same c.put_up.ensures c.loop-place.invariant

pub returns : goal.returns
returns g c =
    let n = rw c.len-place-end.ensures at c.loop-place-test.false in
    all_marked entry_of _ _ c.requires (λ j d l. c.loop-place.invariant j d (omega (arith, l, n)))
