-- What a client says in its session, and why that ends.
use Rattle.std.specs.Prelude.{◌≡◌, ◌↔◌, ℕ, Bool, true, false, List, [], ◌++◌, Option, None, Some}
use Rattle.std.specs.Prelude.{IfOk, IsTrue, Result, Ok}
use Rattle.std.specs.List.{concat, list_any}
use Rattle.std.specs.Io.KnownBytes.{Consumes, IsAtEnd}
use Rattle.irc_line.specs.Line.{Parts}
use Rattle.irc_line.specs.Lines.{Pending, fed_all, is_too_long, lines_all}
use Rattle.irc_line.specs.declared.input.InputEnd.{InputEnd}
use Rattle.irc_line.specs.declared.input.InputEnd.TheVariants as input
use Rattle.hub_core.specs.declared.hub.HubError.{HubError}
use Rattle.hub_core.specs.declared.said.Said.{Said}
use Rattle.hub_core.specs.declared.said.Said.TheVariants as said
use Rattle.hub_threads.specs.Queues.{closed_in}
use Rattle.hub_threads.specs.Writes.{IsWhole, IsWritten}
use Rattle.hub_threads.specs.declared.queued.Queued.{Queued}
use Rattle.hub_threads.specs.declared.writing.WriteFault.{WriteFault}
use Rattle.sessions.specs.Answers.{is_quit}
use Rattle.sessions.specs.declared.attending.Leave.{Leave}
use Rattle.sessions.specs.declared.attending.Leave.TheVariants as leave

-- ---- what is said

-- by what the hub answered to a line: a session ends by QUIT, or if there is none any longer
abbrev pub leave_by : Result Said HubError → Option Leave
leave_by (Ok said.Quit) = Some leave.Quit
leave_by (Ok said.NoSession) = Some leave.Cut
leave_by (Ok said.Cut) = Some leave.Cut
leave_by _ = None

-- what came of a line: it goes on by any but QUIT, ends by QUIT, or the hub no longer has the
-- session
abbrev pub LeavesBy : Parts → Option Leave → Type 0
LeavesBy line None = is_quit line ≡ false
LeavesBy line (Some leave.Quit) = is_quit line ≡ true
LeavesBy line (Some leave.Cut) = Unit {0}
LeavesBy line (Some _) = ⊥

-- whether a QUIT is among the lines
abbrev pub has_quit : List Parts → Bool
has_quit lines = list_any is_quit lines

-- what came of lines, one after the other
abbrev pub WereSaid : List Parts → Option Leave → Type 0
WereSaid lines None = has_quit lines ≡ false
WereSaid lines (Some leave.Quit) = has_quit lines ≡ true
WereSaid lines (Some leave.Cut) = Unit {0}
WereSaid lines (Some _) = ⊥

-- why a session ended, by why its input was read no further
abbrev pub leave_at : InputEnd Leave → Leave
leave_at (input.Answered why) = why
leave_at input.EndOfInput = leave.EndOfInput
leave_at input.TooLong = leave.TooLong
leave_at input.OutOfMemory = leave.OutOfMemory
leave_at _ = leave.ReadFault

-- Why a session ended: what the splitter held then, the lines so far, the piece that was refused,
-- if any, and what is left to read. It ends at the first QUIT, if not before.
abbrev pub IsLeaveCause : Pending → List Parts → List ℕ → Option (List ℕ) → Leave → Type 0
IsLeaveCause held lines refused left leave.Quit = (refused ≡ []) × (has_quit lines ≡ true)
IsLeaveCause held lines refused left leave.Cut = Unit {0}
IsLeaveCause held lines refused left leave.EndOfInput =
    (refused ≡ []) × (has_quit lines ≡ false) × IsAtEnd left
IsLeaveCause held lines refused left leave.ReadFault = (refused ≡ []) × (has_quit lines ≡ false)
IsLeaveCause held lines refused left leave.TooLong =
    IsTrue (is_too_long (held.rest ++ refused)) × (has_quit lines ≡ false)
IsLeaveCause held lines refused left leave.OutOfMemory = has_quit lines ≡ false

-- A client was heard: after the lines that were unread came those of these pieces, one after the
-- other, and the splitter's rest; and it left.
pub record WasHeard (splitter : Pending) (unread : List Parts) (began left : Option (List ℕ))
    (why : Leave) : Type 0 where
  pub pieces : List (List ℕ)
  -- the piece that was refused; nothing, if none was
  pub refused : List ℕ
  pub read : Consumes began left (concat pieces ++ refused)
  pub cause : IsLeaveCause (fed_all splitter pieces) (unread ++ lines_all splitter pieces) refused
      left why

-- ---- what is written

-- A session of this number ended: what its writer wrote, from what it had got before the session,
-- is of the packets that it took, which are all that its end ever took; and if the token is
-- true, these are all that the session was sent, and then its closing item.
pub record HasEnded (id : ℕ) (token fresh : Bool) (all : List Queued) (began out : Option (List ℕ))
    (outcome : Result ℕ WriteFault) : Type 0 where
  pub is_fresh : fresh ≡ true
  pub token_is : IsTrue token ↔ (closed_in all ≡ Some id)
  pub wrote : IsWritten [] all began out fresh outcome
  pub whole : token ≡ true → IfOk outcome (IsWhole id all began out)
