use Rattle.network_tables.proofs.table.slots_weight.Given as goal
use Rattle.network_tables.specs.Table.{entry_bytes, entry_of}
use Rattle.std.{proofs.Common.{map, take, ◌≡◌}, specs.Prelude.{sum_by, ◌%◌, ◌^◌}}

abbrev pub invariant-loop-place : goal.invariant-loop-place
invariant-loop-place g l =
    l.bytes ≡ sum_by (entry_bytes g.V.TableValue.weight) (map entry_of (take l.place l.slots.items))
    % 2 ^ 64
