use Rattle.network_tables.proofs.numbered.cells_weight.Goals as goal
use Rattle.network_tables.proofs.numbered.cells_weight.Goals.{in-Some+in-Some-get}
use Rattle.network_tables.proofs.numbered.cells_weight.Goals.{in-Some+in_default-get, in_default}
use Rattle.network_tables.proofs.NumberedLemmas.{adds_cell, adds_none, entries_joined, past_cells}
use Rattle.network_tables.specs.Table.{entry_bytes}
use Rattle.std.specs.FinMap as fin
use Rattle.std.proofs.{Common.{arith, sym}, lemmas.List.{take_all}}

pub loop-place-preserved : goal.loop-place-preserved
loop-place-preserved g c =
    let f = entry_bytes g.V.TableValue.weight in
    let before = c.loop-place.invariant in
    elim c.match-at.branch [
      | in-Some+in-Some-get w ↦
          rw (w.bytes-is, adds_cell c.requires f _ _ _ w.in-Some.ensures w.in-Some-get.ensures)
          (w.more-bytes.ensures _ _ before w.known_weight.ensures)
      | in-Some+in_default-get w ↦
          rw (w.bytes-is, adds_none c.requires f _ _ w.in-Some.ensures w.in_default-get.ensures)
          before
      | in_default w ↦
          rw (w.bytes-is, past_cells f c.args.cells.now _ _ (sym w.in_default.ensures)) before
    ]

pub returns : goal.returns
returns g c =
    let es = fin.entries c.args.index.now.all in
    let end = rw c.len-place-end.ensures at c.loop-place-test.false in
    rw (entries_joined, ← take_all c.loop-place.place es (omega (arith, end))) c.loop-place.invariant
