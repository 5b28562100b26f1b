-- What a batch has to say after what was written.
use Rattle.std.specs.Prelude.{◌≡◌, ◌<◌, ◌-◌, ◌+◌, ◌++◌, ◌&&◌, ◌||◌, ℕ, Bool, true, false, List, []}
use Rattle.std.specs.Prelude.{◌∷◌, Option, None, Some, Ok}
use Rattle.std.specs.Prelude.{filter, if◌then◌else◌, is_none, is_some, length, map, nat_eq, nat_le}
use Rattle.std.specs.Prelude.{not}
use Rattle.std.specs.FinMap as fin
use Rattle.std.specs.List.{AllByRecursion, flat_map}
use Rattle.std.specs.Option.{option_eq}
use Rattle.history.specs.Entry.{EntryParts}
use Rattle.history.specs.Marks.{NameMarks, mark_of}
use Rattle.history.specs.Messages.{Messages, is_missed, with_message}
use Rattle.journal.specs.Kept.{KeptParts, after_batch, channel_parts}
use Rattle.journal.specs.Records.{RecordParts, gone, parts_of_all}
use Rattle.journal.specs.Snapshots.{channel_records, counting, have_rings, message_records}
use Rattle.journal.specs.Snapshots.{name_record, seen_records}
use Rattle.journal.specs.declared.changes.Changes.{Changes}
use Rattle.journal.specs.declared.changes.Changes.TheVariants as changes
use Rattle.journal.specs.declared.changes.Written.{Written}

-- ---- messages

abbrev pub number_before : ℕ → Option ℕ
number_before number = if nat_eq number 0 then None else Some (number - 1)

-- those of the messages that have this number or a higher one
abbrev pub messages_from : ℕ → Messages → List (ℕ × EntryParts)
messages_from number h = filter (is_missed (number_before number)) h.kept

-- whether all from one number up to another are there
abbrev pub none_missing : ℕ → ℕ → Messages → Bool
none_missing from last h =
    nat_le from last && nat_eq (length (messages_from from h)) (last - from)

-- whether the messages since can be appended to what was written: none is missing, and none has a
-- ring if the file can have none
abbrev pub can_append : Written → ℕ → Messages → Bool
can_append w last h =
    none_missing w.next last h && (w.rings || not (have_rings (messages_from w.next h)))

-- ---- client names: each with its mark, and with what its sessions were given since

-- whether a mark may come after another one: marks never go back
abbrev pub rises : Option ℕ → Option ℕ → Bool
rises None mark = true
rises (Some before) None = false
rises (Some before) (Some mark) = nat_le before mark

-- whether the records of a name say what it has now, if it had other numbers before
abbrev pub can_follow : Option ℕ → Option ℕ → Option ℕ → Option ℕ → Bool
can_follow before given_before mark given =
    rises before mark && (is_some mark || (is_none given_before || is_some given))

module _ (old_latest new new_latest : NameMarks) where
  -- whether a name that was written is to be taken out first
  abbrev pub is_gone : List ℕ × Option ℕ → Bool
  is_gone e =
      not (fin.contains_key new e.0 && can_follow e.1 (mark_of e.0 old_latest)
      (mark_of e.0 new) (mark_of e.0 new_latest))

  abbrev pub gone_of : List ℕ × Option ℕ → List RecordParts
  gone_of e = if is_gone e then gone e.0 ∷ [] else []

module _ (old old_latest new_latest : NameMarks) where
  -- whether a name is new, or has other numbers than were written
  abbrev pub is_changed : List ℕ × Option ℕ → Bool
  is_changed e =
      not (fin.contains_key old e.0 && (option_eq nat_eq (mark_of e.0 old) e.1
      && option_eq nat_eq (mark_of e.0 old_latest) (mark_of e.0 new_latest)))

  abbrev pub changed_of : List ℕ × Option ℕ → List RecordParts
  changed_of e =
      if is_changed e then name_record e.0 e.1 ∷ seen_records e.0 (mark_of e.0 new_latest) else []

-- the names that are to be taken out, and then each that has changed
abbrev pub name_changes : NameMarks → NameMarks → NameMarks → NameMarks → List RecordParts
name_changes old old_latest new new_latest =
    flat_map (gone_of old_latest new new_latest) (fin.entries old)
    ++ flat_map (changed_of old old_latest new_latest) (fin.entries new)

-- ---- all of it

-- the batch of what changed, if this is the number of the next message
abbrev pub batch_of : Written → ℕ → Messages → NameMarks → NameMarks
    → List (List ℕ × Option (List ℕ)) → List RecordParts
batch_of w last h marks latest channels =
    message_records (messages_from w.next h) last
    ++ (name_changes w.marks w.latest marks latest ++ channel_records channels)

-- nothing has changed
pub record IsUnchanged (w : Written) (last : ℕ) (marks latest : NameMarks)
    (channels : List (List ℕ × Option (List ℕ))) : Type 0 where
  pub number : last ≡ w.next
  pub names : name_changes w.marks w.latest marks latest ≡ []
  pub same : map channel_parts w.channels.items ≡ channels

-- the answer for what was written, if this is the number of the next message
abbrev pub TellsAt : Changes → Written → ℕ → Messages → NameMarks → NameMarks
    → List (List ℕ × Option (List ℕ)) → Type 0
TellsAt changes.Nothing w last h marks latest channels =
    (can_append w last h ≡ true) × IsUnchanged w last marks latest channels
TellsAt (changes.Batch records) w last h marks latest channels =
    (can_append w last h ≡ true) × (IsUnchanged w last marks latest channels → ⊥)
    × (parts_of_all records.items ≡ batch_of w last h marks latest channels)
TellsAt changes.Snapshot w last h marks latest channels = can_append w last h ≡ false
TellsAt changes.Spent w last h marks latest channels = ⊥

abbrev pub TellsBy : Option ℕ → Changes → Written → Messages → NameMarks → NameMarks
    → List (List ℕ × Option (List ℕ)) → Type 0
TellsBy None c w h marks latest channels = c ≡ changes.Spent
TellsBy (Some last) c w h marks latest channels = TellsAt c w last h marks latest channels

-- What is to be written after what was written: nothing if nothing has changed; a batch of what has;
-- all of it if a message since was forgotten, or has a ring and the file can have none; nothing more
-- after the last number.
abbrev pub Tells : Changes → Written → Messages → NameMarks → NameMarks
    → List (List ℕ × Option (List ℕ)) → Type 0
Tells c w h marks latest channels = TellsBy h.next c w h marks latest channels

-- ---- what a batch leaves

-- a history that took these messages, the first with this number
abbrev pub grown : ℕ → List EntryParts → Messages → Messages
grown number [] h = h
grown number (e ∷ es) h = grown (number + 1) es (with_message number e h)

-- this is kept after what was written
pub record WasWritten (w : Written) (k : KeptParts) : Type 0 where
  pub number : k.history.next ≡ Some w.next
  pub below : AllByRecursion (λ m. m.0 < w.next) k.history.kept
  pub marks : k.marks ≡ counting w.marks w.latest
  pub marked : k.marked ≡ w.marks
  pub channels : k.channels ≡ map channel_parts w.channels.items

-- what is to be kept of this
abbrev pub kept_now : Messages → NameMarks → NameMarks → List (List ℕ × Option (List ℕ))
    → KeptParts
kept_now h marks latest channels = record {
  history = h;
  marks = counting marks latest;
  marked = marks;
  channels = channels;
}

-- after the batch this is kept; it is kept already if nothing is to be written
abbrev pub Follows : Changes → KeptParts → KeptParts → Type 0
Follows changes.Nothing k now = now ≡ k
Follows (changes.Batch records) k now = after_batch (parts_of_all records.items) k ≡ Ok now
Follows changes.Snapshot k now = Unit {0}
Follows changes.Spent k now = Unit {0}
