use Rattle.network_tables.proofs.room.copies_in.Given as goal
use Rattle.network_tables.specs.{Rooms.{copies_of, room_entry}, Sought.sought_key}
use Rattle.std.{proofs.Common.{map, take, ◌≡◌}, specs.Option.option_map}

abbrev pub invariant-loop-place : goal.invariant-loop-place
invariant-loop-place g l = map (option_map (λ k. k.items)) l.copies.items
    ≡ copies_of l.key (sought_key l.who) (take l.place (map room_entry l.rooms.items))
