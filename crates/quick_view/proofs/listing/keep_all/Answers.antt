use Rattle.quick_view.proofs.listing.keep_all.Goals as goal
use Rattle.std.{proofs.Common.{ap, arith, length, ◌+◌, ◌∙◌, ◌≡◌}, specs.Vec.Iter.into_iter_items}

pub loop-one-preserved : goal.loop-one-preserved
loop-one-preserved g c =
    let inv = c.loop-one.invariant in
    let step = (c.in-Some.ensures.steps).0 in
    let less : length (into_iter_items c.loop-one.one-iterator)
    ≡ length (into_iter_items c.next.new.self) + 1 = ap length step ∙ omega arith in
    let members = inv.2 in
    let persons = inv.3 in (
      tt,
      tt,
      omega (arith, less, members, c.keep_listed.ensures.member_room),
      omega (arith, less, persons, c.keep_listed.ensures.person_room),
      rw (inv.4, step, c.keep_listed.ensures.member),
      rw (inv.5, step, c.keep_listed.ensures.person),
    )
