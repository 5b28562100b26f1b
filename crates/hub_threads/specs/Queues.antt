-- What the ring of an outlet holds.
use Rattle.std.specs.Prelude.{◌≡◌, ℕ, List, [], ◌∷◌, ◌++◌, Option, None, Some, Bool, true, false}
use Rattle.std.specs.Prelude.{map, length}
use Rattle.irc_line.specs.Line.{Parts}
use Rattle.irc_line.specs.Lines.{counted}
use Rattle.hub_threads.specs.declared.queued.Queued.{Queued}
use Rattle.hub_threads.specs.declared.queued.Queued.TheVariants.{Lines, Closing}

-- the packets among the items
abbrev pub packets_in : List Queued → List (List Parts)
packets_in [] = []
packets_in (Lines packet ∷ items) = packet ∷ packets_in items
packets_in (Closing id count ∷ items) = packets_in items

-- the packet at the head, if one is there
abbrev pub first_packet : List Queued → Option (List Parts)
first_packet [] = None
first_packet (Lines packet ∷ items) = Some packet
first_packet (Closing id count ∷ items) = None

-- the number in the first closing item
abbrev pub closed_in : List Queued → Option ℕ
closed_in [] = None
closed_in (Lines packet ∷ items) = closed_in items
closed_in (Closing id count ∷ items) = Some id

-- a closing item has the count of the items before it
abbrev pub MayFollow : List Queued → Queued → Type 0
MayFollow before (Lines packet) = Unit {0}
MayFollow before (Closing id count) = count ≡ counted (length before)

-- the closing item, if any, after this many packets
abbrev pub closing : Option ℕ → ℕ → List Queued
closing None n = []
closing (Some id) n = Closing id (counted n) ∷ []

-- packets, and then the closing item, if any, with their count
abbrev pub ended_by : List (List Parts) → Option ℕ → List Queued
ended_by packets closed = map Lines packets ++ closing closed (length packets)

abbrev pub is_nil : List (List Parts) → Bool
is_nil [] = true
is_nil (packet ∷ packets) = false
