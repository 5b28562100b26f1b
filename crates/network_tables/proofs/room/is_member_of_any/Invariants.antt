use Rattle.network_tables.proofs.room.is_member_of_any.Given as goal
use Rattle.network_tables.specs.{Rooms.{is_in, room_entry}, Sought.sought_key}
use Rattle.std.{proofs.Common.{false, map, take, ◌≡◌}, specs.List.list_any}

abbrev pub invariant-loop-place : goal.invariant-loop-place
invariant-loop-place g l = list_any (is_in (sought_key l.who)) (map room_entry (take l.place
    l.rooms.items)) ≡ false
