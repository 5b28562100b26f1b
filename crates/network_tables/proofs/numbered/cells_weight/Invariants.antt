use Rattle.network_tables.proofs.numbered.cells_weight.Given as goal
use Rattle.network_tables.{proofs.NumberedLemmas.{counted}, specs.Table.{entry_bytes}}
use Rattle.std.specs.FinMap as fin
use Rattle.std.{proofs.Common.{take, ◌≡◌}, specs.Prelude.{◌%◌, ◌^◌}}

abbrev pub invariant-loop-place : goal.invariant-loop-place
invariant-loop-place g l =
    l.bytes ≡ counted (entry_bytes g.V.TableValue.weight) l.cells
    (take l.place (fin.entries l.index.all)) % 2 ^ 64
