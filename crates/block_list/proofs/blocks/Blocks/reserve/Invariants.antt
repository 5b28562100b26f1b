use Rattle.block_list.proofs.blocks.Blocks.reserve.Given as goal
use Rattle.{block_list.specs.Blocks.{IsTiled, items_of}, std.proofs.Common.{length, ◌-◌, ◌≡◌}}

abbrev pub invariant-loop-self : goal.invariant-loop-self
invariant-loop-self g l = record {
  items : items_of l.self-inside.blocks.items ≡ items_of l.initial.self-inside.blocks.items;
  same : l.self-inside.len ≡ l.initial.self-inside.len;
  tiled : IsTiled l.self-inside.blocks.items l.self-inside.len;
}

abbrev pub decreases-loop-self : goal.decreases-loop-self
decreases-loop-self g l = l.wanted - (length l.self-inside.blocks.items - l.filled)
