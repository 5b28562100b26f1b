-- A client that is heard until its session ends.
use Rattle.irc_line.specs.declared.input.InputEnd.TheVariants as input
use Rattle.sessions.specs.declared.attending.Leave.TheVariants as leave
use Rattle.irc_line.specs.{Input.WasRead, Line.Parts, Lines.{Pending, fed_all, lines_all}}
use Rattle.{irc_line.specs.declared.input.InputEnd.InputEnd, sessions.specs.Leaving.IsLeaveCause}
use Rattle.sessions.specs.{Leaving.{WasHeard, WereSaid, leave_at}, declared.attending.Leave.Leave}
use Rattle.std.proofs.Common.{◌++◌, ◌≡◌, List, None, Option, Some, [], append-nil, arith, refl, ℕ}
use Rattle.std.proofs.{KnownBytes.Consumes-nil, lemmas.List.Folds.list_any-append}
use Rattle.std.specs.{Io.KnownBytes.Consumes, List.concat, Prelude.{IfNone, IfSome}}

-- ---- lines

-- lines after others that did not end the session
said_more : (before lines : List Parts) (r : Option Leave) → WereSaid before None
    → WereSaid lines r → WereSaid (before ++ lines) r
said_more before lines r none said = grind (arith, list_any-append)

-- and something else that holds meanwhile
pub said_on : (K : Type 0) (before lines : List Parts) (r : Option Leave) → WereSaid before None
    → WereSaid lines r → K → IfNone r (WereSaid (before ++ lines) None × K)
said_on K before lines None none said k = (said_more before lines None none said, k)
said_on K before lines (Some why) none said k = tt

pub said_last : (K : Type 0) (before lines : List Parts) (r : Option Leave) → WereSaid before None
    → WereSaid lines r → K → IfSome r (λ why. WereSaid (before ++ lines) (Some why) × K)
said_last K before lines None none said k = tt
said_last K before lines (Some why) none said k = (said_more before lines (Some why) none said, k)

-- ---- a session

module _ {old : Pending} {unread : List Parts} {u w : Option (List ℕ)} where
  heard_refused : (new : Pending) (pieces : List (List ℕ)) (piece : List ℕ) (why : Leave)
      → Consumes u w (concat pieces ++ piece) → new ≡ fed_all old pieces
      → IsLeaveCause new (unread ++ lines_all old pieces) piece w why → WasHeard old unread u w why
  heard_refused new pieces piece why read held cause =
      record { pieces = pieces; refused = piece; read = read; cause = rw (← held) cause }

  heard : (pieces : List (List ℕ)) (why : Leave) → Consumes u w (concat pieces)
      → IsLeaveCause (fed_all old pieces) (unread ++ lines_all old pieces) [] w why
      → WasHeard old unread u w why
  heard pieces why read cause = heard_refused _ pieces [] why (rw append-nil read) refl cause

  -- it was read to its end, or left by a line
  -- while something else holds
  module _ (K : Type 0) where
    pub was_heard : (new : Pending) (end : InputEnd Leave) → WereSaid unread None
        → WasRead (λ lines. WereSaid lines None × K) (λ lines why. WereSaid lines (Some why) × K)
        old new u w end → WasHeard old unread u w (leave_at end)
    was_heard new (input.Answered leave.Quit) said r =
        heard r.pieces leave.Quit r.why.0
        (refl, said_more unread _ (Some leave.Quit) said r.why.1.0)
    was_heard new (input.Answered leave.Cut) said r = heard r.pieces leave.Cut r.why.0 tt
    was_heard new (input.Answered _) said r = absurd r.why.1.0
    was_heard new input.EndOfInput said r =
        heard r.pieces leave.EndOfInput r.why.0
        (refl, said_more unread _ None said r.why.2.0, r.why.1)
    was_heard new (input.ReadFault error) said r =
        heard r.pieces leave.ReadFault r.why.0 (refl, said_more unread _ None said r.why.1.0)
    was_heard new input.ReadsSpent said r =
        heard r.pieces leave.ReadFault r.why.0 (refl, said_more unread _ None said r.why.1.0)
    was_heard new input.TooLong said r =
        heard_refused new r.pieces r.why.0 leave.TooLong r.why.1 r.held
        (r.why.2, said_more unread _ None said r.why.3.0)
    was_heard new input.OutOfMemory said r =
        heard_refused new r.pieces r.why.0 leave.OutOfMemory r.why.1 r.held
        (said_more unread _ None said r.why.3.0)

module _ {splitter : Pending} {unread : List Parts} {began : Option (List ℕ)} where
  -- nothing was read after what was unread
  pub heard_unread : (why : Leave) → IsLeaveCause splitter unread [] began why
      → WasHeard splitter unread began began why
  heard_unread why cause = heard [] why (Consumes-nil began) (rw append-nil cause)

  -- it left by a line that was unread
  pub left_unread : (why : Leave) → WereSaid unread (Some why)
      → WasHeard splitter unread began began why
  left_unread leave.Quit said = heard_unread leave.Quit (refl, said)
  left_unread leave.Cut said = heard_unread leave.Cut tt
  left_unread _ said = absurd said

-- what holds while a client is heard
pub kept_meanwhile : (K : Type 0) (old new : Pending) (u w : Option (List ℕ))
    (end : InputEnd Leave)
    → WasRead (λ lines. WereSaid lines None × K) (λ lines why. WereSaid lines (Some why) × K) old
    new u w end → K
kept_meanwhile K old new u w (input.Answered why) r = r.why.1.1
kept_meanwhile K old new u w input.EndOfInput r = r.why.2.1
kept_meanwhile K old new u w (input.ReadFault error) r = r.why.1.1
kept_meanwhile K old new u w input.ReadsSpent r = r.why.1.1
kept_meanwhile K old new u w input.TooLong r = r.why.3.1
kept_meanwhile K old new u w input.OutOfMemory r = r.why.3.1
