-- Records that are written as several batches.
use Rattle.std.specs.Prelude.{◌≡◌, ◌++◌, ℕ, Bool, true, false, List, [], ◌∷◌, Option, Some, Ok}
use Rattle.std.specs.Prelude.{IfSome, Vec, map}
use Rattle.std.specs.Option.{option_and_then}
use Rattle.std.specs.declared.alloc.Global.{Global}
use Rattle.history.specs.Messages.{number_after}
use Rattle.journal.specs.Kept.{KeptParts, after_all, after_batch}
use Rattle.journal.specs.Records.{AreBatches, RecordParts, gone, journal_of, mark, message, name, next}
use Rattle.journal.specs.Records.{on, parts_of_all, seen}
use Rattle.journal.specs.declared.batching.Filling.{Filling}
use Rattle.journal.specs.declared.record.Record.{Record}

abbrev pub texts_of : List (Vec Record Global) → List (List RecordParts)
texts_of batches = map (λ b. parts_of_all b.items) batches

-- What is kept after batches is what is kept after one of all records. No channels are there before,
-- as at the beginning of a file.
abbrev pub DoTheSame : List RecordParts → List (List RecordParts) → Type 0
DoTheSame records batches =
    (k kept : KeptParts) → k.channels ≡ [] → after_batch records k ≡ Ok kept
    → after_all batches k ≡ Ok kept

-- after these bytes the records are written as batches
pub record AreWritten (records : List RecordParts) (old new : List ℕ) : Type 0 where
  pub batches : List (List RecordParts)
  pub are : new ≡ old ++ journal_of batches
  pub sound : AreBatches batches
  pub same : DoTheSame records batches

-- the number of the message after a record
abbrev pub next_after : RecordParts → Option ℕ → Option ℕ
next_after (next number) before = Some number
next_after (message e) before = option_and_then number_after before
next_after (name x) before = before
next_after (mark x number) before = before
next_after (seen x number) before = before
next_after (gone x) before = before
next_after (on channel key) before = before

abbrev pub is_on : RecordParts → Bool
is_on (next number) = false
is_on (message e) = false
is_on (name x) = false
is_on (mark x number) = false
is_on (seen x number) = false
is_on (gone x) = false
is_on (on channel key) = true

-- ---- while they are filled

abbrev pub batches_of : Filling → List (List RecordParts)
batches_of f = texts_of f.whole.items ++ parts_of_all f.batch.items ∷ []

-- after these batches this is kept, and it has what is noted of it
pub record Leaves (f : Filling) (k j : KeptParts) : Type 0 where
  pub after : after_all (batches_of f) k ≡ Ok j
  pub number : IfSome f.next (λ n. j.history.next ≡ Some n)
  pub no_channels : f.is_open ≡ true → j.channels ≡ []
