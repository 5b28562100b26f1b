-- What a thread that writes packets did.
use Rattle.std.specs.Prelude.{◌≡◌, ℕ, List, ◌++◌, Option, Some, Bool, true, Result, Ok, Err, length}
use Rattle.std.specs.Prelude.{take}
use Rattle.std.specs.Prelude.{IsSome, IsTrue, ◌⊎◌}
use Rattle.std.specs.List.{flat_map}
use Rattle.std.specs.Io.KnownBytes.{Appends}
use Rattle.irc_line.specs.Line.{Parts}
use Rattle.irc_line.specs.Lines.{counted}
use Rattle.irc_line.specs.Writing.{bytes_of}
use Rattle.hub_threads.specs.declared.outlet_end.OutletEnd.{OutletEnd}
use Rattle.hub_threads.specs.declared.queued.Queued.{Queued}
use Rattle.hub_threads.specs.declared.turns.Turns.{Turns}
use Rattle.hub_threads.specs.declared.writing.WriteFault.{WriteFault}
use Rattle.hub_threads.specs.Queues.{packets_in, ended_by, is_nil, closed_in}
use Rattle.hub_threads.specs.Rings.{items_of}
use Rattle.hub_threads.specs.Turns.{are_over}

-- the written form of packets, one after the other: their lines, each with CR LF (RFC 2812,
-- section 2.3)
abbrev pub all_bytes : List (List Parts) → List ℕ
all_bytes packets = flat_map bytes_of packets

-- what a writer got of packets: all of it, and the count of bytes; after a fault a beginning
abbrev pub Wrote : Option (List ℕ) → Option (List ℕ) → List (List Parts) → Result ℕ WriteFault
    → Type 0
Wrote began out taken (Ok n) =
    Appends began out (all_bytes taken) × (n ≡ counted (length (all_bytes taken)))
Wrote began out taken (Err e) = (k : ℕ) × Appends began out (take k (all_bytes taken))

-- What a call of `write_out` did: what its end had taken before and has taken now, what the writer
-- had got before and has got now, and its answers.
pub record IsWritten (was all : List Queued) (began out : Option (List ℕ)) (fresh : Bool)
    (outcome : Result ℕ WriteFault) : Type 0 where
  -- the packets that were taken in the call
  pub taken : List (List Parts)
  pub all_are : packets_in all ≡ packets_in was ++ taken
  -- they are all that the end ever took
  pub fresh_is : fresh ≡ is_nil (packets_in was)
  pub wrote : Wrote began out taken outcome

-- What the types of a writer's answers keep: of what the writer has got, the last bytes are the
-- written form of the last packets that the end took, this many bytes; after a fault a beginning of
-- it. If none was taken before, these are all packets that it ever took.
abbrev pub KeepsWritten : List Queued → Option (List ℕ) → Bool → Result ℕ WriteFault → Type 0
KeepsWritten all out fresh outcome =
    (was : List Queued) × (began : Option (List ℕ)) × IsWritten was all began out fresh outcome

-- Nothing more is to be written: the closing item was taken, the writer reached its limit of takes
-- in succession that give nothing, or at the last look the other end was gone and nothing was left,
-- or the sign to stop was up.
abbrev pub IsOver : OutletEnd → Turns → Type 0
IsOver end idle =
    IsSome (closed_in (items_of end)) ⊎ (IsTrue (are_over idle end.misses) ⊎ (end.left ≡ true))

-- A session's end was seen whole: all that the end ever took is packets, and then the closing item
-- of this session with their count; and the writer got the written form of all of them, this many
-- bytes.
pub record IsWhole (id : ℕ) (all : List Queued) (began out : Option (List ℕ)) (count : ℕ)
    : Type 0 where
  pub all_are : all ≡ ended_by (packets_in all) (Some id)
  pub wrote : Appends began out (all_bytes (packets_in all))
  pub counts : count ≡ counted (length (all_bytes (packets_in all)))
