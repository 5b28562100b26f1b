use Rattle.block_list.proofs.Words.{arith, rules, ◌∙◌, ◌+◌, length-set, get_or-set_other}
use Rattle.block_list.proofs.Gaps.{drawn, short_moved}
use Rattle.block_list.proofs.moving.close_up.Goals as goal

pub loop-hole-preserved : goal.loop-hole-preserved
loop-hole-preserved g c =
    let bs = c.loop-hole.blocks.items in
    let h = c.loop-hole.hole in
    let n = c.pop_front.new.self in
    let s = c.loop-hole.invariant.short in
    let is = c.index_mut.ensures.value in
    let there = c.index_mut-in-Some.ensures.value
    ∙ get_or-set_other bs (h + 1) h n _ (λ e. omega arith) in
    record {
      items = drawn bs (h + 1) h _ _ n _ is there c.in-Some.item (omega arith)
          (omega arith) c.in-Some.ensures.items
          c.push_back_reserved.ensures.items ∙ c.loop-hole.invariant.items;
      count = simp length-set c.loop-hole.invariant.count;
      short = short_moved bs (h + 1) h _ _ n _ is there _ s (omega arith)
          (λ e. omega arith) c.in-Some.ensures.len c.push_back_reserved.ensures.len
          c.in-Some.ensures.capacity c.push_back_reserved.ensures.capacity;
    }

pub returns-clause-tiled : goal.returns-clause-tiled
returns-clause-tiled g c = search rules
