-- What is noted of a session: moments at which all messages up to one had been written to its client.
-- Times are milliseconds since any moment.
use Rattle.std.specs.Prelude.{◌+◌, ◌-◌, ℕ, Bool, true, false, List, [], ◌∷◌, ◌++◌, Option, None, Some}
use Rattle.std.specs.Prelude.{drop, if◌then◌else◌, is_some, length, nat_le, nat_lt, option_map, slice_get}
use Rattle.std.specs.Option.{option_or}
use Rattle.receipts.specs.declared.note.Note.{Note}
use Rattle.receipts.specs.declared.notes.Notes.{Notes}
use Rattle.receipts.specs.declared.sent.Sent.{Sent}

-- the notes, oldest first; what was sent and is not known to be written; and when the session was
-- last taken on
pub record NotesState : Type 0 where
  pub known : List Note
  pub waiting : Option Sent
  pub looked : Option ℕ

abbrev pub state_of : Notes → NotesState
state_of n = record { known = n.known.items; waiting = n.waiting; looked = n.looked }

-- ---- what was received

-- the note is at least this much older than the moment
abbrev pub is_before : ℕ → ℕ → Note → Bool
is_before moment margin n = nat_le (n.moment + margin) moment

abbrev pub number_if : Bool → ℕ → Option ℕ
number_if true number = Some number
number_if false number = None

-- the number of the newest of the notes that are at least this much older than the moment
abbrev pub received_by : ℕ → ℕ → List Note → Option ℕ
received_by heard margin [] = None
received_by heard margin (n ∷ ns) =
    option_or (received_by heard margin ns) (number_if (is_before heard margin n) n.number)

-- ---- what is noted

-- what is sent by now is taken on at most once in a second
abbrev pub is_due : Option ℕ → ℕ → Bool
is_due None now = true
is_due (Some looked) now = nat_le 1000 (now - looked)

-- the number up to which all messages have been written, of what was sent
abbrev pub written_of : Option Sent → ℕ → Option ℕ
written_of None written = None
written_of (Some s) written = number_if (nat_le s.count written) s.number

-- what was sent, if it is still to be written
abbrev pub unwritten_of : Option Sent → ℕ → Option Sent
unwritten_of None written = None
unwritten_of (Some s) written = if nat_le s.count written then None else Some s

-- the number up to which all messages are seen to be written: those that were sent by now, if they are
-- taken on, or else those that were waited for
abbrev pub settled : Option Sent → Option Sent → ℕ → Option ℕ
settled waiting offered written = option_or (written_of offered written) (written_of waiting written)

-- what is waited for then: nothing if all is written, else what was waited for, until it is written
abbrev pub waiting_after : Option Sent → Option Sent → ℕ → Option Sent
waiting_after waiting offered written =
    if is_some (written_of offered written) then None
    else option_or (unwritten_of waiting written) offered

-- the number of the newest note
abbrev pub newest : List Note → Option ℕ
newest ns = option_map (λ n. n.number) (slice_get ns (length ns - 1))

-- whether a note says no more than the newest one
abbrev pub says_no_more : ℕ → Option ℕ → Bool
says_no_more number None = false
says_no_more number (Some known) = nat_le number known

-- the oldest goes if there are more than 256
abbrev pub at_most_256 : List Note → List Note
at_most_256 ns = if nat_lt 256 (length ns) then drop 1 ns else ns

-- with a note more, unless the newest one says the same
abbrev pub with_note : Note → List Note → List Note
with_note n ns = if says_no_more n.number (newest ns) then ns else at_most_256 (ns ++ n ∷ [])

abbrev pub with_settled : Option ℕ → ℕ → List Note → List Note
with_settled None now ns = ns
with_settled (Some number) now ns = with_note (record { number = number; moment = now }) ns

-- what is taken on of what was sent by now
abbrev pub offered : Option ℕ → Sent → ℕ → Option Sent
offered looked s now = if is_due looked now then Some s else None

-- after a look at a session that was sent this, of which this many packets were written
abbrev pub noted : Sent → ℕ → ℕ → NotesState → NotesState
noted s written now n = record {
  known = with_settled (settled n.waiting (offered n.looked s now) written) now n.known;
  waiting = waiting_after n.waiting (offered n.looked s now) written;
  looked = if is_due n.looked now then Some now else n.looked;
}
