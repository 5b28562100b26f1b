-- What is due for a file, and what it holds then.
use Rattle.std.specs.Prelude.{◌≡◌, ℕ, Bool, List, Option, Ok, Some, false, map, true}
use Rattle.history.specs.Marks.{NameMarks}
use Rattle.history.specs.Messages.{Messages}
use Rattle.journal.specs.Changes.{Tells, WasWritten, can_append, kept_now}
use Rattle.journal.specs.Kept.{KeptParts, after_batch, channel_parts}
use Rattle.journal.specs.Records.{parts_of_all}
use Rattle.journal.specs.Snapshots.{GivesBack, have_rings}
use Rattle.journal.specs.declared.changes.Changes.TheVariants as changes
use Rattle.journal.specs.declared.changes.Written.{Written}
use Rattle.journal_files.specs.declared.outcome.Wanted.{Wanted}
use Rattle.journal_files.specs.declared.outcome.Wanted.TheVariants as wanted
use Rattle.journal_writer.specs.declared.due.Due.{Due}
use Rattle.journal_writer.specs.declared.due.Due.TheVariants as due

-- what a journal knows: what its file holds, and what the sessions of each name were given
pub record JournalState : Type 0 where
  pub written : Written
  pub latest : NameMarks

-- the channels that a file names then
abbrev pub channels_in : Written → List (List ℕ × Option (List ℕ))
channels_in w = map channel_parts w.channels.items

-- a file holds these messages and marks then, and what the sessions were given; and messages with
-- rings may be in it or not
pub record Holds (w : Written) (with_rings : Bool) (h : Messages) (marks latest : NameMarks) : Type 0
  where
    pub rings : w.rings ≡ with_rings
    pub number : h.next ≡ Some w.next
    pub names : w.marks ≡ marks
    pub given : w.latest ≡ latest

-- what is wanted of a file that holds this: a batch only if the messages since, up to this number, can
-- be appended, a snapshot only if they can't
abbrev pub AsWanted : Wanted → Written → ℕ → Messages → Type 0
AsWanted wanted.Nothing w last h = Unit {0}
AsWanted wanted.Batch w last h = can_append w last h ≡ true
AsWanted wanted.Snapshot w last h = can_append w last h ≡ false

-- What is due by what was written and by what there is now, for the channels that the file names
-- then: a batch of what changed, or records that give all of it back. In the file of a batch messages
-- with rings may occur if they might before; in a new file if there are some.
abbrev pub IsDue : Due → Written → Messages → NameMarks → NameMarks → Type 0
IsDue due.Nothing w h marks latest = Unit {0}
IsDue (due.Append records then) w h marks latest =
    Tells (changes.Batch records) w h marks latest (channels_in then)
    × Holds then w.rings h marks latest
IsDue (due.Replace records then wants) w h marks latest =
    GivesBack (parts_of_all records.items) then.next h marks latest (channels_in then)
    × Holds then (have_rings h.kept) h marks latest × AsWanted wants w then.next h

-- If this is kept after what a file held, what there is now is kept after the batch; and that is
-- kept after what the file holds then.
abbrev pub GoesOn : Due → KeptParts → Messages → NameMarks → NameMarks → Type 0
GoesOn due.Nothing k h marks latest = Unit {0}
GoesOn (due.Append records then) k h marks latest =
    (after_batch (parts_of_all records.items) k ≡ Ok (kept_now h marks latest (channels_in then)))
    × WasWritten then (kept_now h marks latest (channels_in then))
GoesOn (due.Replace records then wants) k h marks latest =
    WasWritten then (kept_now h marks latest (channels_in then))

-- what a file holds once that is done
abbrev pub written_by : Due → Written → Written
written_by due.Nothing w = w
written_by (due.Append records then) w = then
written_by (due.Replace records then wants) w = then
