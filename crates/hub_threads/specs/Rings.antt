-- What contracts see of the rings between threads.
use Rattle.std.specs.Prelude.{ℕ, List, Option, None, map, cond, is_some}
use Rattle.irc_line.specs.Line.{Parts}
use Rattle.rtrb.specs.Ring.{sent, received, known_free, known_items, producer_capacity}
use Rattle.rtrb.specs.Ring.{consumer_capacity, IsPair}
use Rattle.hub_ends.specs.Came.{Came, came}
use Rattle.hub_ends.specs.Outlets.{OutletState}
use Rattle.hub_threads.specs.declared.inlet_ring.InletEnd.{InletEnd}
use Rattle.hub_threads.specs.declared.inlet_ring.RingInlet.{RingInlet}
use Rattle.hub_threads.specs.declared.outlet_end.OutletEnd.{OutletEnd}
use Rattle.hub_threads.specs.declared.outlet_ring.RingOutlet.{RingOutlet}
use Rattle.hub_threads.specs.declared.queued.Queued.{Queued}
use Rattle.hub_threads.specs.Queues.{packets_in, closed_in, first_packet}

-- ---- items, from the thread that reads to the hub

-- what was put
abbrev pub put_of : InletEnd → List Came
put_of end = map came (sent end.producer)

-- how many slots are known to be free
abbrev pub slots_of : InletEnd → ℕ
slots_of end = known_free end.producer

abbrev pub taken_of : RingInlet → List Came
taken_of inlet = map came (received inlet.consumer)

-- what is known to come next
abbrev pub ahead_of : RingInlet → List Came
ahead_of inlet = map came (known_items inlet.consumer)

-- both ends are of one ring
abbrev pub AreEnds : InletEnd → RingInlet → Type 0
AreEnds end inlet = IsPair end.producer inlet.consumer

-- an end is still of each ring that it was of
abbrev pub StaysEnd : InletEnd → InletEnd → Type 0
StaysEnd old new = (inlet : RingInlet) → AreEnds old inlet → AreEnds new inlet

abbrev pub StaysInlet : RingInlet → RingInlet → Type 0
StaysInlet old new = (end : InletEnd) → AreEnds end old → AreEnds end new

-- ---- packets, from the hub to the thread that writes

abbrev pub sent_of : RingOutlet → List (List Parts)
sent_of outlet = packets_in (sent outlet.producer)

abbrev pub closed_of : RingOutlet → Option ℕ
closed_of outlet = outlet.closed

abbrev pub capacity_of : RingOutlet → ℕ
capacity_of outlet = producer_capacity outlet.producer

-- how many slots are known to be free: none once it is closed
abbrev pub free_of : RingOutlet → ℕ
free_of outlet = cond (is_some outlet.closed) 0 (known_free outlet.producer)

abbrev pub state_of : RingOutlet → OutletState
state_of outlet = record {
  sent = sent_of outlet;
  closed = closed_of outlet;
  capacity = capacity_of outlet;
  free = free_of outlet;
}

-- the number in the closing item, if one found a slot
abbrev pub told_of : RingOutlet → Option ℕ
told_of outlet = closed_in (sent outlet.producer)

-- all items that the end ever took
abbrev pub items_of : OutletEnd → List Queued
items_of end = received end.consumer

-- how many items its ring holds at most
abbrev pub end_capacity_of : OutletEnd → ℕ
end_capacity_of end = consumer_capacity end.consumer

-- both ends are of one ring
abbrev pub ArePacketEnds : RingOutlet → OutletEnd → Type 0
ArePacketEnds outlet end = IsPair outlet.producer end.consumer

-- an end is still of each ring that it was of
abbrev pub StaysOutlet : RingOutlet → RingOutlet → Type 0
StaysOutlet old new = (end : OutletEnd) → ArePacketEnds old end → ArePacketEnds new end

abbrev pub StaysOutletEnd : OutletEnd → OutletEnd → Type 0
StaysOutletEnd old new = (outlet : RingOutlet) → ArePacketEnds outlet old → ArePacketEnds outlet new

-- the packet that is known to come next: none once the closing item was taken
abbrev pub next_of : OutletEnd → Option (List Parts)
next_of end = cond (is_some end.closed) None (first_packet (known_items end.consumer))
