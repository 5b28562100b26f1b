use Rattle.block_list.proofs.blocks.Blocks.remove.Goals as goal
use Rattle.block_list.proofs.{Gaps.tiled_gap, Places.{counted, inside, item_at, offset, removed_at}}
use Rattle.block_list.proofs.Words.{ap, arith, length-set, rules, ◌/◌, ◌∙◌}

pub index_mut-requires : goal.index_mut-requires
index_mut-requires g c =
    omega (arith, inside c.self.invariant c.self.view_is c.args.place c.requires)

pub close_up-requires-clause-short : goal.close_up-requires-clause-short
close_up-requires-clause-short g c =
    tiled_gap _ _ _ _ _ c.self.invariant
    (inside c.self.invariant c.self.view_is c.args.place c.requires) c.index_mut.ensures.value
    c.in-Some.ensures.len c.in-Some.ensures.capacity

pub close_up-requires-clause-first : goal.close_up-requires-clause-first
close_up-requires-clause-first g c =
    omega (arith, counted c.self.invariant c.self.view_is)

pub overflow_sub-self : goal.overflow_sub-self
overflow_sub-self g c = omega (arith, counted c.self.invariant c.self.view_is)

pub unreachable-requires : goal.unreachable-requires
unreachable-requires g c =
    let there = offset c.self.invariant c.self.view_is c.args.place c.requires _
    c.index_mut.ensures.value in
    search (rules, there)

pub returns-clause-value : goal.returns-clause-value
returns-clause-value g c =
    item_at c.self.invariant c.self.view_is c.args.place c.requires _ c.index_mut.ensures.value _
    c.in-Some.ensures.value

pub returns-clause-items : goal.returns-clause-items
returns-clause-items g c =
    c.close_up.ensures.items
    ∙ removed_at c.self.invariant c.self.view_is c.args.place c.requires _ c.index_mut.ensures.value
    c.remove.new.self c.in-Some.ensures.items

pub returns-clause-spare : goal.returns-clause-spare
returns-clause-spare g c =
    let all = counted c.self.invariant c.self.view_is in
    let bs = c.self.inside.blocks.items in
    let whole = length-set bs (c.args.place / 128) c.remove.new.self in
    let spare = ap (λ s. s.spare) c.self.view_is in
    omega arith
