use Rattle.figures.proofs.labels.push_value.Given as goal
use Rattle.{figures.specs.Labels.escaped, std.specs.List.flat_map}
use Rattle.std.proofs.Common.{take, ◌++◌, ◌≡◌}

abbrev pub invariant-loop-byte : goal.invariant-loop-byte
invariant-loop-byte l =
    l.out.items ≡ l.fn.out.items ++ flat_map escaped (take l.byte-index l.value)
