-- What is kept after records.
use Rattle.std.specs.Prelude.{◌≡◌, ◌-◌, ◌^◌, ℕ, List, [], ◌∷◌, ◌++◌, Option, None, Some, Result, Ok}
use Rattle.std.specs.Prelude.{Err}
use Rattle.std.specs.Prelude.{◌&&◌, if◌then◌else◌, map, nat_le, nat_lt, not}
use Rattle.std.specs.Option.{option_map}
use Rattle.std.specs.FinMap as fin
use Rattle.history.specs.Entry.{EntryParts}
use Rattle.history.specs.Marks.{NameMarks, admitted, mark_of, with_mark}
use Rattle.history.specs.Messages.{Messages, no_messages, with_message}
use Rattle.journal.specs.Records.{RecordParts, gone, mark, message, name, next, on, seen, text_of}
use Rattle.journal.specs.declared.damage.Damage.{Damage}
use Rattle.journal.specs.declared.damage.Damage.TheVariants as damage
use Rattle.journal.specs.declared.damage.RedoError.{RedoError}
use Rattle.journal.specs.declared.damage.RedoError.TheVariants as fault
use Rattle.journal.specs.declared.kept.Channel.{Channel}
use Rattle.journal.specs.declared.kept.Kept.{Kept}

-- the messages; the client names, each with the number that counts, which is that of its last mark
-- or of what its sessions were given; the same names, each with its last mark; and the channels
-- that we are on, each with its key if it has one
pub record KeptParts : Type 0 where
  pub history : Messages
  pub marks : NameMarks
  pub marked : NameMarks
  pub channels : List (List ℕ × Option (List ℕ))

abbrev pub channel_parts : Channel → List ℕ × Option (List ℕ)
channel_parts c = (c.name.items, option_map text_of c.key)

abbrev pub kept_parts : Kept → KeptParts
kept_parts k = record {
  history = k.history;
  marks = k.marks;
  marked = k.marked;
  channels = map channel_parts k.channels.items;
}

-- before any record: the first message has this number
abbrev pub nothing : ℕ → ℕ → KeptParts
nothing capacity first = record {
  history = no_messages capacity first;
  marks = fin.empty;
  marked = fin.empty;
  channels = [];
}

-- ---- one record

-- the next message has this number, which is none that was passed
abbrev pub skipped : ℕ → Option ℕ → Messages → Result Messages Damage
skipped number None h = Err damage.BadNumber
skipped number (Some lowest) h =
    if nat_le lowest number then Ok (record h { next = Some number }) else Err damage.BadNumber

-- a message more, if a number is left after its own
abbrev pub with_next : EntryParts → Option ℕ → Messages → Result Messages Damage
with_next e None h = Err damage.BadNumber
with_next e (Some number) h =
    if nat_lt number (2 ^ 64 - 1) then Ok (with_message number e h) else Err damage.BadNumber

-- a name more, if it is known or fewer than 64 are
abbrev pub named : List ℕ → NameMarks → Result NameMarks Damage
named x marks =
    if not (fin.contains_key marks x) && nat_le 64 (fin.len marks) then Err damage.TooManyNames
    else Ok (admitted x marks)

-- the name has seen all up to a number, which is not below its last mark
abbrev pub marked_at : List ℕ → ℕ → Option ℕ → NameMarks → Result NameMarks Damage
marked_at x number None marks = Ok (with_mark x number marks)
marked_at x number (Some before) marks =
    if nat_le before number then Ok (with_mark x number marks) else Err damage.BadNumber

abbrev pub then_marked : List ℕ → ℕ → Result NameMarks Damage → Result NameMarks Damage
then_marked x number (Ok marks) = marked_at x number (mark_of x marks) marks
then_marked x number (Err d) = Err d

abbrev pub marked : List ℕ → ℕ → NameMarks → Result NameMarks Damage
marked x number marks = then_marked x number (named x marks)

-- this number counts for a name, whatever counted before
abbrev pub then_counted : List ℕ → ℕ → Result NameMarks Damage → Result NameMarks Damage
then_counted x number (Ok marks) = Ok (with_mark x number marks)
then_counted x number (Err d) = Err d

abbrev pub counted : List ℕ → ℕ → NameMarks → Result NameMarks Damage
counted x number marks = then_counted x number (named x marks)

-- the same of all that is kept
abbrev pub with_history : KeptParts → Result Messages Damage → Result KeptParts Damage
with_history k (Ok h) = Ok (record k { history = h })
with_history k (Err d) = Err d

-- the numbers that count, and the last marks
abbrev pub with_names : KeptParts → Result NameMarks Damage → Result NameMarks Damage
    → Result KeptParts Damage
with_names k (Ok marks) (Ok marked) = Ok (record k { marks = marks; marked = marked })
with_names k (Ok marks) (Err d) = Err d
with_names k (Err d) _ = Err d

abbrev pub after : RecordParts → KeptParts → Result KeptParts Damage
after (next number) k = with_history k (skipped number k.history.next k.history)
after (message e) k = with_history k (with_next e k.history.next k.history)
after (name x) k = with_names k (named x k.marks) (named x k.marked)
after (mark x number) k = with_names k (counted x number k.marks) (marked x number k.marked)
after (seen x number) k = with_names k (counted x number k.marks) (named x k.marked)
after (gone x) k =
    Ok (record k { marks = fin.remove k.marks x; marked = fin.remove k.marked x })
after (on channel key) k = Ok (record k { channels = k.channels ++ (channel, key) ∷ [] })

-- ---- batches

abbrev pub then_after : (KeptParts → Result KeptParts Damage) → Result KeptParts Damage
    → Result KeptParts Damage
then_after f (Ok k) = f k
then_after f (Err d) = Err d

abbrev pub after_each : List RecordParts → KeptParts → Result KeptParts Damage
after_each [] k = Ok k
after_each (r ∷ rs) k = then_after (after_each rs) (after r k)

-- a batch names all channels that we are on
abbrev pub after_batch : List RecordParts → KeptParts → Result KeptParts Damage
after_batch rs k = after_each rs (record k { channels = [] })

abbrev pub after_all : List (List RecordParts) → KeptParts → Result KeptParts Damage
after_all [] k = Ok k
after_all (b ∷ bs) k = then_after (after_all bs) (after_batch b k)

-- ---- what a call did

-- what was to come of it came, or the error says why not
abbrev pub Does : {T A : Type 0} → Result T RedoError → Result A Damage → A → Type 0
Does (Ok x) wanted new = wanted ≡ Ok new
Does (Err (fault.Damaged d)) wanted new = wanted ≡ Err d
Does (Err fault.OutOfMemory) wanted new = Unit {0}
