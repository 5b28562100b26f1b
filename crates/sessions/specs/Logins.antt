-- What a login over two streams sends, how it ends, and why it fails.
use Rattle.std.specs.Prelude.{◌≡◌, ◌<◌, ◌+◌, ℕ, false, drop, length, take, List, []}
use Rattle.std.specs.Prelude.{◌∷◌, ◌++◌, IsTrue, Option, Result, Ok, Err}
use Rattle.std.specs.Io.KnownBytes.{Appends, Consumes}
use Rattle.irc_line.specs.Line.{Parts}
use Rattle.irc_line.specs.Lines.{Pending, fed, is_too_long, lines_of, start}
use Rattle.irc_line.specs.declared.input.InputEnd.{InputEnd}
use Rattle.irc_line.specs.declared.input.InputEnd.TheVariants as input
use Rattle.irc_line.specs.Writing.{bytes_of}
use Rattle.sessions.specs.Answers.{Answer, answer_to, claims, closes, has_ended, sends}
use Rattle.sessions.specs.Claims.{parts_of}
use Rattle.sessions.specs.Progress.{Progress}
use Rattle.sessions.specs.Taken.{HasTaken}
use Rattle.sessions.specs.declared.arrival.Ending.{Ending}
use Rattle.sessions.specs.declared.arrival.Ending.TheVariants.{Claims, Closes}
use Rattle.sessions.specs.declared.arrival.LastLine.{LastLine}
use Rattle.sessions.specs.declared.fault.LoginFault.{LoginFault}
use Rattle.sessions.specs.declared.fault.LoginFault.TheVariants.{OutOfMemory, Read, TooLong}
use Rattle.sessions.specs.declared.fault.LoginFault.TheVariants.{Write}

-- ---- what is sent

-- the lines that an answer sends
abbrev pub lines_in : Answer → List Parts
lines_in (sends lines) = lines
lines_in (claims claim) = []
lines_in (closes lines) = lines

-- the lines that are sent for these lines, after others
abbrev pub sent_for : List Parts → List Parts → List Parts
sent_for before [] = []
sent_for before (line ∷ lines) =
    lines_in (answer_to before line) ++ sent_for (before ++ line ∷ []) lines

-- ---- how it ends

-- an answer that ends a login in this way
abbrev pub IsEndOf : Answer → Ending → Type 0
IsEndOf answer (Claims claim) = answer ≡ claims (parts_of claim)
IsEndOf answer Closes = (lines : List Parts) × (answer ≡ closes lines)

-- the last line of a login is at this place of some lines, after others, and ends it so
abbrev pub IsEndAt : List Parts → List Parts → ℕ → Ending → Type 0
IsEndAt before lines place ending =
    (last : Parts) × (place < length lines)
    × (drop place lines ≡ last ∷ drop (place + 1) lines)
    × IsEndOf (answer_to (before ++ take place lines) last) ending

-- A login over two streams: of the bytes that were read, the lines up to the last one ended it so,
-- each was answered, and what comes after the last is left.
pub record LogsIn (began left was now : Option (List ℕ)) (ending : Ending) (lines : List Parts)
    (splitter : Pending) : Type 0 where
  pub bytes : List ℕ
  pub before : List Parts
  pub last : Parts
  pub read : Consumes began left bytes
  pub whole : lines_of bytes ≡ before ++ last ∷ lines
  pub ended : IsEndOf (answer_to before last) ending
  pub rest : splitter ≡ fed start bytes
  pub sent : Appends was now (bytes_of (sent_for [] (before ++ last ∷ [])))

-- ---- why it fails

-- lines are only not sent for these causes
abbrev pub IsSendCause : LoginFault → Type 0
IsSendCause OutOfMemory = Unit {0}
IsSendCause Write = Unit {0}
IsSendCause _ = ⊥

-- why it fails if these bytes were read: a line that is too long; or the input ended, or could
-- not be read, before there was an end
abbrev pub IsCauseOf : List ℕ → LoginFault → Type 0
IsCauseOf bytes OutOfMemory = Unit {0}
IsCauseOf bytes Write = is_too_long bytes ≡ false
IsCauseOf bytes TooLong = IsTrue (is_too_long bytes)
IsCauseOf bytes Read = (is_too_long bytes ≡ false) × (has_ended (lines_of bytes) ≡ false)

-- what a login came to, by why its input was read no further
abbrev pub outcome_of : InputEnd (Result LastLine LoginFault) → Result LastLine LoginFault
outcome_of (input.Answered answer) = answer
outcome_of input.TooLong = Err TooLong
outcome_of input.OutOfMemory = Err OutOfMemory
outcome_of _ = Err Read

-- ---- line by line

-- the state of a login that has taken these lines, answered each, and goes on
pub record GoesOn (was now : Option (List ℕ)) (login : Progress) (lines : List Parts) : Type 0 where
  pub taken : HasTaken lines login
  pub going : has_ended lines ≡ false
  pub sent : Appends was now (bytes_of (sent_for [] lines))

-- one of these lines ended a login in this way, each up to it was answered, and the others are left;
-- or no more could be sent
abbrev pub EndsLogin : Option (List ℕ) → Option (List ℕ) → List Parts → Result LastLine LoginFault
    → Type 0
EndsLogin was now lines (Ok end) =
    (before : List Parts) × (last : Parts) × (lines ≡ before ++ last ∷ end.behind.items)
    × IsEndOf (answer_to before last) end.ending
    × Appends was now (bytes_of (sent_for [] (before ++ last ∷ [])))
EndsLogin was now lines (Err fault) = IsSendCause fault
