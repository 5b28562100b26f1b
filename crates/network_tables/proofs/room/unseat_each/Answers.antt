use Rattle.network_tables.proofs.room.unseat_each.Goals as goal
use Rattle.{network_tables.proofs.EachLemmas.changed_more, std.proofs.Common.length-set}

pub loop-place-preserved : goal.loop-place-preserved
loop-place-preserved g c =
    let before = c.loop-place.invariant in
    let within = rw (c.len-place-end.ensures, ← before.as_long) at c.loop-place-test.true in
    record {
      changed = changed_more _ _ _ _ _ within before.changed c.at_mut-room.ensures.value _
          (rw (c.remove_by.ensures.all, c.deref_mut.ensures.value));
      as_long = rw length-set before.as_long;
    }
