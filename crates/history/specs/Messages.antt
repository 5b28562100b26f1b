-- The messages that are kept of each target, and what somebody missed of them.
use Rattle.std.specs.Prelude.{ℕ, ◌+◌, ◌^◌, Bool, true, ◌&&◌, nat_le, nat_lt, if◌then◌else◌, List}
use Rattle.std.specs.Prelude.{[], ◌≡◌, ◌<◌, ◌≤◌, IfSome, IsTrue}
use Rattle.std.specs.Prelude.{◌∷◌, ◌++◌, false, map, filter, length, reverse}
use Rattle.std.specs.Option.{is_some, unwrap_or}
use Rattle.std.proofs.Common.{Option, Some, None}
use Rattle.std.specs.List.{AllByRecursion, enumerate_from}
use Rattle.irc_names.specs.CaseMapping.{key_of}
use Rattle.irc_names.specs.declared.case_mapping.CaseMapping.TheVariants.{Ascii}
use Rattle.history.specs.Entry.{EntryParts, IsWrittenEntry, is_message_command}
use Rattle.history.specs.Retained.{after_one_more_apart, of_kind, retained_apart, targets}
use Rattle.history.specs.Rings.{Rings, rings_of}

-- the messages that are retained, oldest first and with their numbers, how many there may be to one
-- target, and the number of the next message, none if the last number was given
pub record Messages : Type 0 where
  pub capacity : ℕ
  pub kept : List (ℕ × EntryParts)
  pub next : Option ℕ

-- how many messages a history may hold (our own choice)
abbrev pub is_capacity : ℕ → Bool
is_capacity capacity = nat_le 1 capacity && nat_le capacity 10000

-- of how many persons messages are retained, and of how many other targets (our own choice)
abbrev pub target_limit : ℕ
target_limit = 128

-- what the ring of a message is known by, which is that of a person or of its target: two are the
-- same if their keys under the `ascii` mapping are equal
abbrev pub target_key : ℕ × EntryParts → List ℕ
target_key m = key_of Ascii (unwrap_or m.1.ring m.1.target)

-- whether that is a person's ring; persons push out no other targets, and these no persons
abbrev pub is_with_person : ℕ × EntryParts → Bool
is_with_person m = is_some m.1.ring

-- of all messages, the oldest first, those that are retained
abbrev pub retained_of : ℕ → List (ℕ × EntryParts) → List (ℕ × EntryParts)
retained_of capacity all = retained_apart target_key is_with_person target_limit capacity all

-- of the messages that were retained and one more after them, those that stay
abbrev pub staying_of : ℕ → List (ℕ × EntryParts) → List (ℕ × EntryParts)
staying_of capacity ms = after_one_more_apart target_key is_with_person target_limit capacity ms

-- of messages those in rings of persons, or those in rings of other targets
abbrev pub kept_with : Bool → List (ℕ × EntryParts) → List (ℕ × EntryParts)
kept_with is_person ms = filter (of_kind is_with_person is_person) ms

-- a history to which no message came
abbrev pub no_messages : ℕ → ℕ → Messages
no_messages capacity first = record { capacity = capacity; kept = []; next = Some first }

-- the number after this one; a number has 64 bits
abbrev pub number_after : ℕ → Option ℕ
number_after number = if nat_lt (number + 1) (2 ^ 64) then Some (number + 1) else None

-- one message more: it is kept, and of the others those that stay
abbrev pub with_message : ℕ → EntryParts → Messages → Messages
with_message number entry h = record {
  capacity = h.capacity;
  kept = staying_of h.capacity (h.kept ++ (number, entry) ∷ []);
  next = number_after number;
}

-- whether a message is numbered above a mark; each is if there is no mark
abbrev pub is_missed : Option ℕ → ℕ × EntryParts → Bool
is_missed None m = true
is_missed (Some mark) m = nat_lt mark m.0

-- those of these messages
abbrev pub missed_of : Option ℕ → List (ℕ × EntryParts) → List EntryParts
missed_of mark ms = map (λ (m : ℕ × EntryParts). m.1) (filter (is_missed mark) ms)

-- what somebody missed who has seen all messages up to the mark
abbrev pub missed_by : Option ℕ → Messages → List EntryParts
missed_by mark h = missed_of mark h.kept

-- a number, if it has 64 bits
abbrev pub numbered : ℕ → Option ℕ
numbered number = if nat_lt number (2 ^ 64) then Some number else None

-- the history of these messages, the first with this number: those that are retained, by
-- looking back
abbrev pub history_of : ℕ → ℕ → List EntryParts → Messages
history_of capacity first messages = record {
  capacity = capacity;
  kept = retained_of capacity (enumerate_from first messages);
  next = numbered (first + length messages);
}

-- each message that is kept can be written, as one from a line
abbrev pub AreWrittenMessages : Messages → Type 0
AreWrittenMessages h = AllByRecursion (λ m. IsWrittenEntry m.1) h.kept

-- of how many targets that are no persons there are messages, and of how many persons
abbrev pub targets_held : Messages → ℕ
targets_held h = length (targets target_key (reverse (kept_with false h.kept)))

abbrev pub persons_held : Messages → ℕ
persons_held h = length (targets target_key (reverse (kept_with true h.kept)))

-- the rings of messages, persons' or those of other targets
abbrev pub rings_with : Bool → ℕ → List (ℕ × EntryParts) → Rings
rings_with is_person capacity kept = record {
  capacity = capacity;
  rings = rings_of target_key (kept_with is_person kept);
}

-- what holds of a history in memory: its rings are those of the messages that are kept, and these
-- are numbered below the next one
pub record IsTied (capacity : ℕ) (kept : List (ℕ × EntryParts)) (next : Option ℕ)
    (of_others of_persons : Rings) : Type 0 where
  pub some : 0 < capacity
  pub others : of_others ≡ rings_with false capacity kept
  pub persons : of_persons ≡ rings_with true capacity kept
  pub below : IfSome next (λ number. AllByRecursion (λ m. m.0 < number) kept)

-- numbers rise, and from this one on
abbrev pub RiseFrom : ℕ → List (ℕ × EntryParts) → Type 0
RiseFrom n [] = Unit {0}
RiseFrom n (m ∷ ms) = (n ≤ m.0) × RiseFrom (m.0 + 1) ms

-- if these messages came after those, each would be kept, and none would go for it
abbrev pub AllStay : ℕ → List (ℕ × EntryParts) → List (ℕ × EntryParts) → Type 0
AllStay capacity kept [] = Unit {0}
AllStay capacity kept (m ∷ ms) =
    (staying_of capacity (kept ++ m ∷ []) ≡ kept ++ m ∷ [])
    × AllStay capacity (kept ++ m ∷ []) ms

-- The messages of a history could come again: their numbers rise, below the next one, and in a
-- history of this capacity all would be kept.
pub record CanComeAgain (h : Messages) : Type 0 where
  pub rise : RiseFrom 0 h.kept
  pub below : IfSome h.next (λ number. AllByRecursion (λ m. m.0 < number) h.kept)
  pub stay : AllStay h.capacity [] h.kept

-- what a hub may begin with: messages that can be written, numbered below the first that it gives
pub record AreKeptBefore (first : ℕ) (h : Messages) : Type 0 where
  pub messages : AllByRecursion (λ m. IsTrue (is_message_command m.1.command)) h.kept
  pub written : AreWrittenMessages h
  pub below : AllByRecursion (λ m. m.0 < first) h.kept
  pub next : h.next ≡ Some first
