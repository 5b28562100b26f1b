use Rattle.network_tables.proofs.table.slots_weight.Goals as goal
use Rattle.network_tables.{proofs.BytesLemmas.{one_place}, specs.Table.{entry_bytes, entry_of}}

pub loop-place-preserved : goal.loop-place-preserved
loop-place-preserved g c =
    let within = rw c.len-place-end.ensures at c.loop-place-test.true in
    rw (one_place (entry_bytes g.V.TableValue.weight) entry_of _ _ _ within c.at.ensures)
    (c.more-bytes.ensures _ _ c.loop-place.invariant
    (rw c.deref.ensures at c.entry_weight.ensures))
