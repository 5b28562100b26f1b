use Rattle.network_tables.proofs.modes.modes_copy.Given as goal
use Rattle.{network_tables.specs.Modes.mode_of, std.proofs.Common.{map, take, ◌≡◌}}

abbrev pub invariant-loop-mode : goal.invariant-loop-mode
invariant-loop-mode g l = map mode_of l.copy.items ≡ map mode_of (take l.mode-index l.modes)
