use Rattle.block_list.proofs.Words.{arith, ◌∙◌, ◌-◌, length-set, get_or-set_other}
use Rattle.block_list.proofs.Gaps.{passed, short_moved}
use Rattle.block_list.proofs.moving.make_room.Goals as goal

pub loop-hole-preserved : goal.loop-hole-preserved
loop-hole-preserved g c =
    let bs = c.loop-hole.blocks.items in
    let h = c.loop-hole.hole in
    let n = c.pop_back.new.self in
    let s = c.loop-hole.invariant.short in
    let is = c.index_mut.ensures.value in
    let there = c.index_mut-in-Some.ensures.value
    ∙ get_or-set_other bs (h - 1) h n _ (λ e. omega arith) in
    record {
      items = passed bs (h - 1) h _ _ n _ is there c.in-Some.item (omega arith) s.inside
          c.in-Some.ensures.items c.push_front_reserved.ensures.items
          ∙ c.loop-hole.invariant.items;
      count = simp length-set c.loop-hole.invariant.count;
      short = short_moved bs (h - 1) h _ _ n _ is there _ s (omega arith)
          (λ e. omega arith) c.in-Some.ensures.cases c.push_front_reserved.ensures.len
          c.in-Some.ensures.capacity c.push_front_reserved.ensures.capacity;
      behind = omega arith;
    }
