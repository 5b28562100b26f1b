use Rattle.network_tables.proofs.person.retain_in.Given as goal
use Rattle.{net_view.specs.Step.is_seen, network_tables.proofs.Retaining.left}
use Rattle.{network_tables.specs.Rooms.rooms_of, std.proofs.Common.{length, ◌≡◌, ◌≤◌}}

abbrev pub invariant-loop-place : goal.invariant-loop-place
invariant-loop-place g l = record {
  looked : l.slots.items ≡ left (λ slot. is_seen (rooms_of l.rooms.all) slot.entry.value.key.items)
      l.place l.initial.slots.items;
  within : l.place ≤ length l.initial.slots.items;
}

abbrev pub decreases-loop-place : goal.decreases-loop-place
decreases-loop-place g l = l.place
