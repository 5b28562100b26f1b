-- The records that say all that is kept.
use Rattle.std.specs.Prelude.{◌≡◌, ◌≤◌, ◌+◌, ◌++◌, ℕ, Bool, List, [], ◌∷◌, Option, None, Some, Ok}
use Rattle.std.specs.Prelude.{if◌then◌else◌, map, nat_eq}
use Rattle.std.specs.FinMap as fin
use Rattle.std.specs.List.{AllByRecursion, flat_map, list_any}
use Rattle.history.specs.Entry.{EntryParts}
use Rattle.history.specs.Marks.{NameMarks, mark_of}
use Rattle.history.specs.Messages.{Messages, is_with_person, retained_of}
use Rattle.journal.specs.Kept.{KeptParts, after_batch, nothing}
use Rattle.journal.specs.Records.{RecordParts, gone, mark, message, name, next, on, seen}

-- the next number, if it is not the one that is expected
abbrev pub next_to : ℕ → ℕ → List RecordParts
next_to expected number = if nat_eq expected number then [] else next number ∷ []

-- messages, the first expected to have this number, and the number that is next then
abbrev pub messages_until : ℕ → List (ℕ × EntryParts) → ℕ → List RecordParts
messages_until expected [] last = next_to expected last
messages_until expected (m ∷ ms) last =
    next_to expected m.0 ++ (message m.1 ∷ messages_until (m.0 + 1) ms last)

-- the number of the first message, or the next number if there is none
abbrev pub first_of : List (ℕ × EntryParts) → ℕ → ℕ
first_of [] last = last
first_of (m ∷ ms) last = m.0

abbrev pub message_records : List (ℕ × EntryParts) → ℕ → List RecordParts
message_records ms last = next (first_of ms last) ∷ messages_until (first_of ms last) ms last

-- a client name, and its mark if it has one
abbrev pub name_record : List ℕ → Option ℕ → RecordParts
name_record x None = name x
name_record x (Some number) = mark x number

-- what its sessions were given since, if it is known
abbrev pub seen_records : List ℕ → Option ℕ → List RecordParts
seen_records x None = []
seen_records x (Some number) = seen x number ∷ []

-- client names with their marks, each with what its sessions were given since
abbrev pub name_records : NameMarks → List (List ℕ × Option ℕ) → List RecordParts
name_records latest es =
    flat_map (λ e. name_record e.0 e.1 ∷ seen_records e.0 (mark_of e.0 latest)) es

abbrev pub channel_records : List (List ℕ × Option (List ℕ)) → List RecordParts
channel_records cs = map (λ c. on c.0 c.1) cs

-- whether one of messages is in a person's ring
abbrev pub have_rings : List (ℕ × EntryParts) → Bool
have_rings ms = list_any is_with_person ms

-- all of it, if this is the number of the next message
abbrev pub snapshot_of : ℕ → Messages → NameMarks → NameMarks
    → List (List ℕ × Option (List ℕ)) → List RecordParts
snapshot_of last h marks latest channels =
    message_records h.kept last
    ++ (name_records latest (fin.entries marks) ++ channel_records channels)

-- of a name's mark and of what its sessions were given since, the number that counts
abbrev pub counting_one : Option ℕ → Option ℕ → Option ℕ
counting_one before None = before
counting_one before (Some number) = Some number

abbrev pub counting_all : NameMarks → List (List ℕ × Option ℕ) → List (List ℕ × Option ℕ)
counting_all latest es = map (λ e. (e.0, counting_one e.1 (mark_of e.0 latest))) es

-- the names that have marks, each with the number that counts
abbrev pub counting : NameMarks → NameMarks → NameMarks
counting marks latest = fin.from_entries (counting_all latest (fin.entries marks))

-- what a history of this capacity retains of the messages of another one
abbrev pub in_capacity : ℕ → Messages → Messages
in_capacity capacity h = record {
  capacity = capacity;
  kept = retained_of capacity h.kept;
  next = h.next;
}

-- what is kept if all of it is, in a history of this capacity
abbrev pub all_kept : ℕ → Messages → NameMarks → NameMarks → List (List ℕ × Option (List ℕ))
    → KeptParts
all_kept capacity h marks latest channels = record {
  history = in_capacity capacity h;
  marks = counting marks latest;
  marked = marks;
  channels = channels;
}

-- after these records from nothing, all of it is kept, if the first number is none that was
-- passed
abbrev pub GivesBack : List RecordParts → ℕ → Messages → NameMarks → NameMarks
    → List (List ℕ × Option (List ℕ)) → Type 0
GivesBack records last h marks latest channels =
    (capacity first : ℕ) → first ≤ first_of h.kept last
    → after_batch records (nothing capacity first) ≡ Ok (all_kept capacity h marks latest channels)

-- records that say nothing of channels
abbrev pub IsNoChannel : RecordParts → Type 0
IsNoChannel (next number) = Unit {0}
IsNoChannel (message e) = Unit {0}
IsNoChannel (name x) = Unit {0}
IsNoChannel (mark x number) = Unit {0}
IsNoChannel (seen x number) = Unit {0}
IsNoChannel (gone x) = Unit {0}
IsNoChannel (on channel key) = ⊥

abbrev pub AreNoChannels : List RecordParts → Type 0
AreNoChannels rs = AllByRecursion IsNoChannel rs
