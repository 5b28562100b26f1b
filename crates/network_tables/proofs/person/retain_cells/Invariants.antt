use Rattle.network_tables.proofs.person.retain_cells.Given as goal
use Rattle.{net_view.specs.Step.is_seen, network_tables.specs.{Numbered.seen_in, Rooms.rooms_of}}
use Rattle.{slab.specs.Slab.{HasRoomFor, get}, std.proofs.Common.{ℕ, ◌<◌, ◌≡◌, ◌≤◌}}

abbrev pub invariant-loop-number : goal.invariant-loop-number
invariant-loop-number g l = record {
  seen : (n : ℕ) → n < l.number → get l.cells n ≡ seen_in (is_seen (rooms_of l.rooms.all)) (get
      l.initial.cells n);
  rest : (n : ℕ) → l.number ≤ n → get l.cells n ≡ get l.initial.cells n;
  room : HasRoomFor l.cells 0;
}
