use Rattle.block_list.proofs.moving.close_up.Given as goal
use Rattle.{block_list.specs.Blocks.{IsShort, items_of}, std.proofs.Common.{length, ◌≡◌}}

abbrev pub invariant-loop-hole : goal.invariant-loop-hole
invariant-loop-hole g l = record {
  items : items_of l.blocks.items ≡ items_of l.initial.blocks.items;
  count : length l.blocks.items ≡ length l.initial.blocks.items;
  short : IsShort l.blocks.items l.len l.hole;
}
