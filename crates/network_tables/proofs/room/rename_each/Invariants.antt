use Rattle.network_tables.proofs.room.rename_each.Given as goal
use Rattle.network_tables.specs.Rooms.{copies_of, each_changed, moved_channel, room_entry}
use Rattle.{network_tables.specs.Sought.sought_key, std.proofs.Common.{drop, length, map, take}}
use Rattle.std.{proofs.Common.{◌++◌, ◌≡◌}, specs.Option.option_map}

abbrev pub invariant-loop-place : goal.invariant-loop-place
invariant-loop-place g l = record {
  changed : map room_entry l.rooms.items
      ≡ each_changed (moved_channel l.taken (sought_key l.old) l.new)
      (take l.place (map room_entry l.initial.rooms.items))
      ++ drop l.place (map room_entry l.initial.rooms.items);
  as_long : length l.rooms.items ≡ length l.initial.rooms.items;
  copies : map (option_map (λ k. k.items)) l.copies.items
      ≡ copies_of l.new (sought_key l.old) (drop l.place (map room_entry l.initial.rooms.items));
}
