-- What contracts see of ends in memory.
use Rattle.std.specs.Prelude.{ℕ, List, ◌++◌, ◌-◌, ◌+◌, cond, is_some, map}
use Rattle.std.specs.VecDeque.{deque_len}
use Rattle.hub_ends.specs.declared.memory_inlet.MemoryInlet.{MemoryInlet}
use Rattle.hub_ends.specs.declared.memory_outlet.MemoryOutlet.{MemoryOutlet}
use Rattle.hub_ends.specs.Came.{Came, came}
use Rattle.hub_ends.specs.Outlets.{OutletState}

-- ---- items

abbrev pub taken_of : MemoryInlet → List Came
taken_of i = map came i.taken.items

abbrev pub ahead_of : MemoryInlet → List Came
ahead_of i = map (λ t. came (t.item, t.moment)) i.waiting.items

-- ---- packets

-- it has no room once it is closed
abbrev pub free_of : MemoryOutlet → ℕ
free_of o = cond (is_some o.closed) 0 (o.capacity - deque_len o.waiting)

-- the packets that were taken out count as sent
abbrev pub state_of : MemoryOutlet → OutletState
state_of o = record {
  sent = o.drained.items ++ o.waiting.items;
  closed = o.closed;
  capacity = o.capacity;
  free = free_of o;
}

-- the packets that wait to be taken out
abbrev pub pending_of : MemoryOutlet → ℕ
pending_of o = deque_len o.waiting

-- what is free after this many were taken out
abbrev pub drained_from : MemoryOutlet → ℕ → ℕ
drained_from o taken = cond (is_some o.closed) 0 (free_of o + taken)
