use Rattle.block_list.proofs.Words
use Words.{ℕ, ◌+◌, ◌*◌, ◌/◌, ◌-◌, arith, refl, says_at}
use Rattle.block_list.proofs.blocks.Blocks.binary_search_by.Goals as goal
use Rattle.block_list.proofs.Narrowing.{all_ahead, answered, ended, lower, missed, moved, upper}
use Rattle.{block_list.proofs.Places.{counted, read_in, share_of}, std.specs.Fn.FnReturnsAt}

pub returns-then-self-eq0-clause-position : goal.returns-then-self-eq0-clause-position
returns-then-self-eq0-clause-position g c ord h up =
    let all = counted c.self.invariant c.self.view_is in
    let none = c.if-self-eq0.true in
    (λ k d a b. absurd (omega arith), λ k d a b. absurd (omega arith))

pub loop-count-init : goal.loop-count-init
loop-count-init g c =
    let all = counted c.self.invariant c.self.view_is in
    search (arith, all_ahead)

pub loop-count-preserved-then-is_gt : goal.loop-count-preserved-then-is_gt
loop-count-preserved-then-is_gt g c =
    let all = counted c.self.invariant c.self.view_is in
    let middle = c.loop-count.first + c.loop-count.count / 2 in
    let read = read_in c.self.invariant c.self.view_is (middle * 128) middle 0 (omega arith)
    (omega arith) (omega arith) _ c.index.ensures _ c.index-in-loop-count.ensures in
    let found = lower c.loop-count.invariant.narrowed
    (record { item = _; at = read; said = says_at g.F.Fn c.order.ensures refl })
    c.if-is_gt.ensures in
    search (arith, found)

pub loop-count-preserved : goal.loop-count-preserved
loop-count-preserved g c =
    let all = counted c.self.invariant c.self.view_is in
    let middle = c.loop-count.first + c.loop-count.count / 2 in
    let read = read_in c.self.invariant c.self.view_is (middle * 128) middle 0 (omega arith)
    (omega arith) (omega arith) _ c.index.ensures _ c.index-in-loop-count.ensures in
    let found = upper c.loop-count.invariant.narrowed
    ((middle + (c.loop-count.count - c.loop-count.count / 2)) * 128)
    (record { item = _; at = read; said = says_at g.F.Fn c.order.ensures refl }) c.if-is_gt.ensures
    (omega arith) in
    search (arith, found)

pub loop-size-init : goal.loop-size-init
loop-size-init g c =
    let all = counted c.self.invariant c.self.view_is in
    let long = share_of c.self.invariant c.self.view_is c.loop-count.first _ c.index-block.ensures
    (omega arith) in
    let found = λ (start new : ℕ). moved c.loop-count.invariant.narrowed start new in
    search (arith, found)

pub loop-size-preserved-then-is_gt-2 : goal.loop-size-preserved-then-is_gt-2
loop-size-preserved-then-is_gt-2 g c =
    let read = read_in c.self.invariant c.self.view_is
    (c.loop-count.first * 128 + c.loop-size.base + c.loop-size.size / 2) c.loop-count.first
    (c.loop-size.base + c.loop-size.size / 2) (omega arith) (omega arith) (omega arith) _
    c.index-block.ensures _ c.index-in-loop-size.ensures in
    let found = lower c.loop-size.invariant.narrowed
    (record { item = _; at = read; said = says_at g.F.Fn c.order-in-loop-size.ensures refl })
    c.if-is_gt-2.ensures in
    search (arith, found, c.loop-size.invariant.small)

pub loop-size-preserved : goal.loop-size-preserved
loop-size-preserved g c =
    let middle = c.loop-size.base + c.loop-size.size / 2 in
    let place = c.loop-count.first * 128 + middle in
    let read = read_in c.self.invariant c.self.view_is place c.loop-count.first middle refl
    (omega arith) (omega arith) _ c.index-block.ensures _ c.index-in-loop-size.ensures in
    let found = upper c.loop-size.invariant.narrowed
    (place + (c.loop-size.size - c.loop-size.size / 2))
    (record { item = _; at = read; said = says_at g.F.Fn c.order-in-loop-size.ensures refl })
    c.if-is_gt-2.ensures (omega arith) in
    search (arith, found, c.loop-size.invariant.small)

pub returns-in-Equal-clause-position : goal.returns-in-Equal-clause-position
returns-in-Equal-clause-position g c =
    let read = read_in c.self.invariant c.self.view_is _ c.loop-count.first c.loop-size.base refl
    (omega arith) (omega arith) _ c.index-block.ensures _ c.index-2.ensures in
    answered (FnReturnsAt g.F.Fn c.args.order) c.args.self.now.items _
    (record { item = _; at = read; said = says_at g.F.Fn c.order-2.ensures c.in-Equal.is })

pub returns-in-Less-clause-position : goal.returns-in-Less-clause-position
returns-in-Less-clause-position g c =
    let read = read_in c.self.invariant c.self.view_is _ c.loop-count.first c.loop-size.base refl
    (omega arith) (omega arith) _ c.index-block.ensures _ c.index-2.ensures in
    ended c.loop-size.invariant.narrowed
    (record { item = _; at = read; said = says_at g.F.Fn c.order-2.ensures c.in-Less.is })
    (omega arith) (omega arith)

pub returns-clause-position : goal.returns-clause-position
returns-clause-position g c =
    let read = read_in c.self.invariant c.self.view_is _ c.loop-count.first c.loop-size.base refl
    (omega arith) (omega arith) _ c.index-block.ensures _ c.index-2.ensures in
    missed c.loop-size.invariant.narrowed
    (record { item = _; at = read; said = says_at g.F.Fn c.order-2.ensures c.in-Greater.is })
