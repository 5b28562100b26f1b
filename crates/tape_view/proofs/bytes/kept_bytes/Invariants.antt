use Rattle.std.proofs.Common.{take, ◌%◌, ◌^◌, ◌≡◌}
use Rattle.tape_view.proofs.bytes.kept_bytes.Given as goal
use Rattle.tape_view.specs.{Kept.tape_of, Weights.arrivals_bytes}

abbrev pub invariant-loop-k : goal.invariant-loop-k
invariant-loop-k g l = l.bytes ≡ arrivals_bytes (tape_of (take l.k-index l.kept)) % 2 ^ 64
