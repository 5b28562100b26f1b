use Rattle.hub_ends.proofs.memory_outlet.MemoryOutlet.drain.Given as goal
use Rattle.{hub_ends.specs.Memory.state_of, std.proofs.Common.{◌+◌, ◌-◌, ◌≡◌, ◌≤◌}}
use Rattle.std.specs.{Vec.{vec_capacity, vec_len}, VecDeque.deque_len}

abbrev pub invariant-loop : goal.invariant-loop
invariant-loop l = record {
  sent : (state_of l.self).sent ≡ (state_of l.fn.self).sent;
  closed : l.self.closed ≡ l.fn.self.closed;
  capacity : l.self.capacity ≡ l.fn.self.capacity;
  waiting : deque_len l.self.waiting + l.counter ≡ deque_len l.fn.self.waiting;
  room : vec_len l.self.drained + (l.taken - l.counter) ≤ vec_capacity l.self.drained;
  within : l.taken ≤ deque_len l.fn.self.waiting;
}
