use Rattle.block_list.proofs.blocks.Blocks.binary_search_by.Given as goal
use Rattle.{block_list.proofs.Narrowing.Found, std.proofs.Common.{length, ◌*◌, ◌+◌, ◌-◌, ◌/◌, ◌<◌}}
use Rattle.std.{proofs.Common.{◌^◌, ◌≤◌}, specs.Fn.FnReturnsAt}

abbrev pub invariant-loop-count : goal.invariant-loop-count
invariant-loop-count g l = record {
  some : 0 < l.count;
  within : l.first + l.count ≤ (l.self-inside.len - 1) / 128 + 1;
  narrowed : Found (FnReturnsAt g.F.Fn l.order) l.self.items (l.first * 128)
      ((l.first + l.count) * 128);
}

abbrev pub decreases-loop-count : goal.decreases-loop-count
decreases-loop-count g l = l.count

abbrev pub invariant-loop-size : goal.invariant-loop-size
invariant-loop-size g l = record {
  some : 0 < l.size;
  within : l.base + l.size ≤ l.block.len;
  reached : l.first * 128 + l.base + l.size ≤ length l.self.items;
  block : l.base + l.size ≤ 128;
  small : length l.self.items ≤ 2 ^ 63;
  narrowed : Found (FnReturnsAt g.F.Fn l.order) l.self.items (l.first * 128 + l.base)
      (l.first * 128 + l.base + l.size);
}

abbrev pub decreases-loop-size : goal.decreases-loop-size
decreases-loop-size g l = l.size
