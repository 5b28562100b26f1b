use Rattle.std.proofs.Common.{◌≡◌, length, map}
use Rattle.journal.specs.Kept.{channel_parts}
use Rattle.journal.proofs.changes.same_channels.Given as goal

abbrev pub invariant-loop-left : goal.invariant-loop-left
invariant-loop-left l = record {
  same : map channel_parts l.left ≡ map channel_parts l.right
      → map channel_parts l.a ≡ map channel_parts l.b;
  parts : map channel_parts l.a ≡ map channel_parts l.b
      → map channel_parts l.left ≡ map channel_parts l.right;
}

abbrev pub decreases-loop-left : goal.decreases-loop-left
decreases-loop-left l = length l.left
