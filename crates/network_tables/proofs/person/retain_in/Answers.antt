use Rattle.network_tables.proofs.person.retain_in.Goals as goal
use Rattle.{network_tables.proofs.Retaining.taken_out}
use Rattle.std.proofs.{Common.{◌-◌, arith}, lemmas.Grind.common_steps}

pub loop-place-preserved-then-not-is_seen : goal.loop-place-preserved-then-not-is_seen
loop-place-preserved-then-not-is_seen g c =
    let n = c.loop-place.place in
    let some = c.loop-place-test.true in
    let before = c.loop-place.invariant in
    record {
      looked = rw c.remove.ensures.items
          (taken_out _ _ _ n (n - 1) _
          (omega (arith, some)) before.within before.looked c.at.ensures
          (rw (c.is_seen.ensures, c.deref-in-loop-place.ensures.value, c.deref.ensures)
          at c.if-not-is_seen.true));
      within = omega (arith, before.within);
    }

pub loop-place-init : goal.loop-place-init
loop-place-init g c = grind (arith, common_steps)
