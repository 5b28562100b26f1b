use Rattle.std.proofs.Common.{length, sum_by, ℕ, ◌%◌, ◌+◌, ◌^◌, ◌≡◌}
use Rattle.tape_view.proofs.bytes.line_bytes.Given as goal
use Rattle.tape_view.specs.Weights.{line_bytes}

abbrev pub invariant-loop-param : goal.invariant-loop-param
invariant-loop-param g l =
    (so_far : ℕ) × (l.bytes ≡ so_far % 2 ^ 64)
    × (so_far + sum_by length l.param-iterator ≡ line_bytes l.line)
