use Rattle.hub_core.proofs.weighing.parts_weight.Given as goal
use Rattle.hub_core.specs.Weights.{part_bytes}
use Rattle.std.{proofs.Common.{take, ◌≡◌}, specs.Prelude.{sum_by, ◌%◌, ◌^◌}}

abbrev pub invariant-loop-part : goal.invariant-loop-part
invariant-loop-part l = l.bytes ≡ sum_by part_bytes (take l.part-index l.parts) % 2 ^ 64
