use Rattle.block_list.proofs.blocks.Blocks.insert.Goals as goal
use Rattle.block_list.proofs.{Gaps.{gap_offset, gap_room, inserted_at}, Places.counted, Words.ap}
use Rattle.block_list.proofs.Words.{arith, insert, ◌∙◌, ◌≤◌}

pub make_room-requires-clause-first : goal.make_room-requires-clause-first
make_room-requires-clause-first g c =
    omega (arith, counted c.self.invariant c.self.view_is)

pub insert-requires : goal.insert-requires
insert-requires g c =
    let all = counted c.self.invariant c.self.view_is in
    gap_offset c.args.place c.make_room.ensures.short (omega arith) _ c.index_mut.ensures.value

pub returns-clause-items : goal.returns-clause-items
returns-clause-items g c =
    let all = counted c.self.invariant c.self.view_is in
    let p : c.args.place ≤ c.self.inside.len = omega arith in
    let short = c.make_room.ensures.short in
    let is = c.index_mut.ensures.value in
    let room = gap_room c.args.place short p _ is in
    inserted_at c.args.place short p _ is c.insert.new.self c.args.item
    (grind (arith, room, c.insert.ensures.items, c.insert.ensures.full))
    ∙ ap (λ l. insert l c.args.place c.args.item)
    (c.make_room.ensures.items ∙ ap (λ s. s.items) c.self.view_is)
