use Rattle.history.proofs.names.Names.bytes.Given as goal
use Rattle.history.proofs.Weights.{listed_bytes}
use Rattle.history.specs.{Named.named, Weights.marks_bytes}
use Rattle.std.proofs.Common.{ℕ, ◌%◌, ◌+◌, ◌^◌, ◌≡◌}

abbrev pub invariant-loop-name : goal.invariant-loop-name
invariant-loop-name g l =
    (x : ℕ) × (l.bytes ≡ x % 2 ^ 64)
    × (x + listed_bytes (named l.name-iterator) ≡ marks_bytes l.self)
