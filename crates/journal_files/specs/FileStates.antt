-- What is to be done to the file of a journal.
use Rattle.std.specs.Prelude.{◌+◌, ◌-◌, ◌*◌, ◌^◌, ℕ, Bool, true, false, ◌&&◌, Option, None, Some}
use Rattle.std.specs.Prelude.{if◌then◌else◌, min, nat_le, nat_lt}
use Rattle.journal_files.specs.declared.file_state.FileState.{FileState}
use Rattle.journal_files.specs.declared.journal_file.Beginning.{Beginning}
use Rattle.journal_files.specs.declared.journal_file.Beginning.TheVariants as beginning
use Rattle.journal_files.specs.declared.outcome.Deed.{Deed}
use Rattle.journal_files.specs.declared.outcome.Deed.TheVariants as deed
use Rattle.journal_files.specs.declared.outcome.Outcome.{Outcome}
use Rattle.journal_files.specs.declared.outcome.Outcome.TheVariants as outcome
use Rattle.journal_files.specs.declared.outcome.Wanted.{Wanted}
use Rattle.journal_files.specs.declared.outcome.Wanted.TheVariants as wanted

-- for how long a file rests after a fault, in milliseconds, and from which size on it is written
-- anew (our own choices)
abbrev pub fault_pause : ℕ
fault_pause = 30000

abbrev pub compaction_size : ℕ
compaction_size = 4194304

-- whether it is that long, and more than three times as long as after the last snapshot
abbrev pub is_long : FileState → Bool
is_long s = nat_lt compaction_size s.size && nat_lt (3 * s.snapshot) s.size

-- what is done to a file that may be appended to, and does not rest
abbrev pub sound_deed : Wanted → ℕ → FileState → Deed
sound_deed wanted.Nothing now s = deed.Rest
sound_deed wanted.Snapshot now s = deed.Replace
sound_deed wanted.Batch now s =
    if is_long s && nat_le s.compact_from now then deed.Replace else deed.Append

-- Nothing before the rest is over. A file that is not sound is replaced, whatever is wanted.
abbrev pub deed_for : Wanted → ℕ → FileState → Deed
deed_for wanted now s =
    if nat_lt now s.rest_until then deed.Rest else
    if s.is_sound then sound_deed wanted now s else deed.Replace

-- a sum, or the largest number of 64 bits
abbrev pub sum_within : ℕ → ℕ → ℕ
sum_within a b = min (a + b) (2 ^ 64 - 1)

-- after a fault nothing is done for a while
abbrev pub rested : ℕ → FileState → FileState
rested now s = record s { rest_until = sum_within now fault_pause }

-- a file of which this many bytes count was opened: it is not known how many its last snapshot had
abbrev pub opened : ℕ → FileState
opened bytes = record {
  size = bytes;
  snapshot = 0;
  is_sound = true;
  rest_until = 0;
  compact_from = 0;
}

-- by what it contained
abbrev pub begun : Beginning → ℕ → FileState → FileState
begun beginning.Fresh bytes s = s
begun beginning.Whole bytes s = opened bytes
begun (beginning.Cut damaged) bytes s = opened bytes

-- a batch of this many bytes was appended, or not
abbrev pub appended : Outcome → ℕ → ℕ → FileState → FileState
appended outcome.Done bytes now s = record s { size = sum_within s.size bytes }
appended outcome.NotWritten bytes now s = rested now s
appended outcome.NotSynced bytes now s = record (rested now s) { is_sound = false }

-- where the file is to be cut then: after its last whole frame, if something may have been written
abbrev pub cut_after : Outcome → FileState → Option ℕ
cut_after outcome.Done s = None
cut_after outcome.NotWritten s = Some s.size
cut_after outcome.NotSynced s = None

-- a new file of this many bytes took its place
abbrev pub replaced : ℕ → FileState
replaced bytes = record {
  size = bytes;
  snapshot = bytes;
  is_sound = true;
  rest_until = 0;
  compact_from = 0;
}

-- no new file did: one that is sound goes on, if a batch can be appended to it
abbrev pub not_replaced : Wanted → ℕ → FileState → FileState
not_replaced wanted.Batch now s =
    if s.is_sound then record s { compact_from = sum_within now fault_pause } else rested now s
not_replaced wanted.Nothing now s = rested now s
not_replaced wanted.Snapshot now s = rested now s
