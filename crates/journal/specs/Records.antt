-- What a journal says, and its text: a record is a line of IRC, a batch is some records.
use Rattle.std.specs.Prelude.{◌≡◌, ◌<◌, ◌^◌, ◌++◌, ℕ, Bool, List, [], ◌∷◌, Option, None, Some, Vec}
use Rattle.std.specs.Prelude.{IsTrue}
use Rattle.std.specs.Prelude.{◌==◌, codes, decimal, if◌then◌else◌, is_none, length, map, position}
use Rattle.std.specs.List.{AllByRecursion, flat_map}
use Rattle.std.specs.Option.{option_map}
use Rattle.std.specs.declared.alloc.Global.{Global}
use Rattle.irc_line.specs.Line.{Parts}
use Rattle.irc_line.specs.Writing.{bytes_of, is_writable, line_of_parts, untagged_line}
use Rattle.history.specs.Entry.{EntryParts, IsWrittenEntry, is_message_command}
use Rattle.frames.specs.Frames.{frame}
use Rattle.journal.specs.declared.record.Record.{Record}
use Rattle.journal.specs.declared.record.Record.TheVariants as rec

-- The next message has this number. A message was kept. A client name was admitted; it has seen all
-- up to this number; its sessions were given all up to this number; it was forgotten. We are on a
-- channel, with this key if it has one.
pub data RecordParts : Type 0 where
  next : ℕ → RecordParts
  message : EntryParts → RecordParts
  name : List ℕ → RecordParts
  mark : List ℕ → ℕ → RecordParts
  seen : List ℕ → ℕ → RecordParts
  gone : List ℕ → RecordParts
  on : List ℕ → Option (List ℕ) → RecordParts

-- a text in memory
abbrev pub text_of : Vec ℕ Global → List ℕ
text_of v = v.items

abbrev pub record_parts : Record → RecordParts
record_parts (rec.Next number) = next number
record_parts (rec.Message entry) = message entry
record_parts (rec.Name x) = name x.items
record_parts (rec.Mark x number) = mark x.items number
record_parts (rec.Seen x number) = seen x.items number
record_parts (rec.Gone x) = gone x.items
record_parts (rec.On channel key) = on channel.items (option_map text_of key)

abbrev pub parts_of_all : List Record → List RecordParts
parts_of_all records = map record_parts records

-- a name as the value of a tag (IRCv3 message-tags, escaped values: `;` is `\:`, `\` is `\\`)
abbrev pub escaped_byte : ℕ → List ℕ
escaped_byte b =
    if b == 59 then codes "\\:" else
    if b == 92 then codes "\\\\" else b ∷ []

abbrev pub escaped : List ℕ → List ℕ
escaped x = flat_map escaped_byte x

-- the tag of a person's ring, after that of the time
abbrev pub ring_tag : Option (List ℕ) → List ℕ
ring_tag None = []
ring_tag (Some x) = codes ";ring=" ++ escaped x

abbrev pub tags_of : EntryParts → List ℕ
tags_of e = codes "time=" ++ (e.time ++ ring_tag e.ring)

-- where the first tag ends
abbrev pub end_of_tag : List ℕ → Option ℕ
end_of_tag tags = position (λ b. b == 59) tags

-- whether a text is no more than one tag
abbrev pub is_one_tag : List ℕ → Bool
is_one_tag text = is_none (end_of_tag text)

-- a line of this command and these parameters
abbrev pub bare : List ℕ → List (List ℕ) → Parts
bare command params = untagged_line None command params

-- the line that a record is written as
abbrev pub line_for : RecordParts → Parts
line_for (next number) = bare (codes "NEXT") (decimal number ∷ [])
line_for (message e) =
    line_of_parts (Some (tags_of e)) (Some e.source) e.command (e.target ∷ e.text ∷ [])
line_for (name x) = bare (codes "NAME") (x ∷ [])
line_for (mark x number) = bare (codes "MARK") (x ∷ decimal number ∷ [])
line_for (seen x number) = bare (codes "SEEN") (x ∷ decimal number ∷ [])
line_for (gone x) = bare (codes "GONE") (x ∷ [])
line_for (on channel None) = bare (codes "ON") (channel ∷ [])
line_for (on channel (Some key)) = bare (codes "ON") (channel ∷ key ∷ [])

-- a number has 64 bits; a message can be written, is a PRIVMSG or a NOTICE, and its time is no more
-- than one tag
abbrev pub IsRight : RecordParts → Type 0
IsRight (next number) = number < 2 ^ 64
IsRight (message e) =
    IsWrittenEntry e × IsTrue (is_message_command e.command) × IsTrue (is_one_tag e.time)
IsRight (name x) = Unit {0}
IsRight (mark x number) = number < 2 ^ 64
IsRight (seen x number) = number < 2 ^ 64
IsRight (gone x) = Unit {0}
IsRight (on channel key) = Unit {0}

-- a record that can be written
pub record IsSound (r : RecordParts) : Type 0 where
  pub line : IsTrue (is_writable (line_for r))
  pub right : IsRight r

abbrev pub AreSound : List RecordParts → Type 0
AreSound rs = AllByRecursion IsSound rs

-- the text of a batch
abbrev pub payload_of : List RecordParts → List ℕ
payload_of rs = bytes_of (map line_for rs)

-- the text is that of these records, which can be written
abbrev pub IsBatch : List ℕ → List RecordParts → Type 0
IsBatch payload rs = AreSound rs × (payload ≡ payload_of rs)

-- batches that frames can hold
abbrev pub AreBatches : List (List RecordParts) → Type 0
AreBatches batches =
    AllByRecursion (λ b. AreSound b × (length (payload_of b) < 2 ^ 32)) batches

-- the bytes of batches that are written one after another
abbrev pub journal_of : List (List RecordParts) → List ℕ
journal_of batches = flat_map frame (map payload_of batches)
