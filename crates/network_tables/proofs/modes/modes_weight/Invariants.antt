use Rattle.network_tables.proofs.modes.modes_weight.Given as goal
use Rattle.network_tables.specs.{Modes.{mode_of}, Weights.{mode_bytes}}
use Rattle.std.{proofs.Common.{map, take, ◌≡◌}, specs.Prelude.{sum_by, ◌%◌, ◌^◌}}

abbrev pub invariant-loop-mode : goal.invariant-loop-mode
invariant-loop-mode g l =
    l.bytes ≡ sum_by mode_bytes (map mode_of (take l.mode-index l.modes)) % 2 ^ 64
