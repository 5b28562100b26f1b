use Rattle.network_tables.proofs.room.is_member_of_any.Goals as goal
use Rattle.network_tables.{proofs.EachLemmas.any_at, specs.Rooms.{is_in, room_entry}}
use Rattle.{network_tables.specs.Sought.sought_key}

pub returns-then-contains_by : goal.returns-then-contains_by
returns-then-contains_by g c =
    any_at (is_in (sought_key c.args.who)) room_entry _ _ _
    (rw c.len-place-end.ensures at c.loop-place-test.true) c.at.ensures
    (rw (c.contains_by.ensures, c.deref.ensures) at c.if-contains_by.true)
