-- The record that a line is read as, computed. It may be one that is written otherwise, as a number
-- with zeros in front: a batch counts only if its records are written exactly as we write them.
use Rattle.std.specs.Prelude.{◌^◌, ◌++◌, ◌*◌, ◌+◌, ◌-◌, ◌&&◌, ◌==◌, ℕ, Bool, true, false, List, []}
use Rattle.std.specs.Prelude.{◌∷◌, Option, None, Some}
use Rattle.std.specs.Prelude.{codes, drop, if◌then◌else◌, nat_eq, nat_lt, slice_get, take}
use Rattle.std.specs.Char.{is_ascii_digit}
use Rattle.std.specs.List.{list_all, starts_with}
use Rattle.std.specs.Option.{option_and_then, option_map}
use Rattle.irc_line.specs.Line.{Parts, has_command}
use Rattle.irc_line.specs.Tags.{is_tag_byte}
use Rattle.history.specs.Entry.{in_ring, message_of}
use Rattle.journal.specs.Records.{RecordParts, end_of_tag, gone, mark, message, name, next, on, seen}

-- the number that digits are after those of a number
abbrev pub number_on : ℕ → List ℕ → Option ℕ
number_on n [] = Some n
number_on n (c ∷ cs) =
    if is_ascii_digit c && nat_lt (n * 10 + (c - 48)) (2 ^ 64) then number_on (n * 10 + (c - 48)) cs
    else None

abbrev pub number_in : List ℕ → Option ℕ
number_in text = number_on 0 text

-- the byte that stands for itself or, after a `\`, for another one (IRCv3 message-tags, escaped values;
-- we write no others)
abbrev pub unescaped_byte : ℕ → ℕ
unescaped_byte b = if b == 58 then 59 else b

-- the name that a tag's value is, after a `\` that began an escape, or not
abbrev pub unescaped_on : Bool → List ℕ → List ℕ
unescaped_on is_escape [] = []
unescaped_on true (b ∷ bs) = unescaped_byte b ∷ unescaped_on false bs
unescaped_on false (b ∷ bs) =
    if b == 92 then unescaped_on true bs else b ∷ unescaped_on false bs

abbrev pub unescaped : List ℕ → List ℕ
unescaped text = unescaped_on false text

-- a message of this time and this ring
abbrev pub message_at : List ℕ → Option (List ℕ) → Parts → Option RecordParts
message_at time ring line =
    if list_all is_tag_byte time
    then option_map message (option_map (in_ring ring) (message_of time line.source line)) else None

-- by where the time ends: after it comes the name of a ring, or nothing
abbrev pub message_by : Option ℕ → List ℕ → Parts → Option RecordParts
message_by None tags line = message_at tags None line
message_by (Some end) tags line =
    if starts_with nat_eq (drop (end + 1) tags) (codes "ring=")
    then message_at (take end tags) (Some (unescaped (drop 5 (drop (end + 1) tags)))) line else None

abbrev pub message_in : List ℕ → Parts → Option RecordParts
message_in tags line =
    if starts_with nat_eq tags (codes "time=")
    then message_by (end_of_tag (drop 5 tags)) (drop 5 tags) line else None

-- a record of a command with one parameter, and of one with two
abbrev pub one_in : Parts → List ℕ → Option RecordParts
one_in line x =
    if has_command line (codes "NEXT") then option_map next (number_in x) else
    if has_command line (codes "NAME") then Some (name x) else
    if has_command line (codes "GONE") then Some (gone x) else
    if has_command line (codes "ON") then Some (on x None) else None

abbrev pub two_in : Parts → List ℕ → List ℕ → Option RecordParts
two_in line x y =
    if has_command line (codes "MARK") then option_map (mark x) (number_in y) else
    if has_command line (codes "SEEN") then option_map (seen x) (number_in y) else
    if has_command line (codes "ON") then Some (on x (Some y)) else None

-- by the first two parameters
abbrev pub note_by : Parts → Option (List ℕ) → Option (List ℕ) → Option RecordParts
note_by line None second = None
note_by line (Some x) None = one_in line x
note_by line (Some x) (Some y) = two_in line x y

abbrev pub note_in : Parts → Option RecordParts
note_in line = note_by line (slice_get line.params 0) (slice_get line.params 1)

abbrev pub record_by : Option (List ℕ) → Parts → Option RecordParts
record_by None line = note_in line
record_by (Some tags) line = message_in tags line

abbrev pub record_of : Parts → Option RecordParts
record_of line = record_by line.tags line

-- the records that lines are after these, or none if a line is none
abbrev pub records_on : List RecordParts → List Parts → Option (List RecordParts)
records_on done [] = Some done
records_on done (l ∷ ls) = option_and_then (λ r. records_on (done ++ r ∷ []) ls) (record_of l)

abbrev pub records_in : List Parts → Option (List RecordParts)
records_in lines = records_on [] lines
