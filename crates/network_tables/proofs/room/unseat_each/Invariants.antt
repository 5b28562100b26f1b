use Rattle.network_tables.proofs.room.unseat_each.Given as goal
use Rattle.{net_view.specs.Changes.without_member, network_tables.specs.Rooms.each_changed}
use Rattle.{network_tables.specs.{Rooms.room_entry, Sought.sought_key}, std.proofs.Common.drop}
use Rattle.std.proofs.Common.{length, map, take, ◌++◌, ◌≡◌}

abbrev pub invariant-loop-place : goal.invariant-loop-place
invariant-loop-place g l = record {
  changed : map room_entry l.rooms.items ≡ each_changed (without_member (sought_key l.who))
      (take l.place (map room_entry l.initial.rooms.items)) ++ drop l.place (map room_entry
      l.initial.rooms.items);
  as_long : length l.rooms.items ≡ length l.initial.rooms.items;
}
