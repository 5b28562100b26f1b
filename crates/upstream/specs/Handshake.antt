-- What a registration over two streams sends, and why it fails.
use Rattle.std.specs.Prelude.{◌≡◌, ◌<◌, ◌+◌, ℕ, Bool, true, false, drop, length, take, List, []}
use Rattle.std.specs.Prelude.{◌∷◌, ◌++◌, IsTrue, Option, Result, Ok, Err}
use Rattle.std.specs.Io.KnownBytes.{Appends}
use Rattle.irc_line.specs.Line.{Parts}
use Rattle.irc_line.specs.Lines.{is_too_long, lines_of}
use Rattle.irc_line.specs.Writing.{bytes_of}
use Rattle.bnc_config.specs.Settings.{NetworkSettings}
use Rattle.upstream.specs.Registration.{Answer, answer_to, fails, first_lines, has_ended, is_end}
use Rattle.upstream.specs.Registration.{join_lines, sends}
use Rattle.upstream.specs.Registration.{welcomes}
use Rattle.upstream.specs.Progress.{Progress}
use Rattle.upstream.specs.Taken.{HasTaken}
use Rattle.irc_line.specs.declared.input.InputEnd.{InputEnd}
use Rattle.irc_line.specs.declared.input.InputEnd.TheVariants as input
use Rattle.upstream.specs.declared.handshake.FromWelcome.{FromWelcome}
use Rattle.upstream.specs.declared.handshake.DialFault.{DialFault}
use Rattle.upstream.specs.declared.handshake.DialFault.TheVariants.{Memory, Read, Write, TooLong}
use Rattle.upstream.specs.declared.handshake.DialFault.TheVariants.{Register}

-- a writer got a beginning of these bytes, or all of them
abbrev pub Begins : Option (List ℕ) → Option (List ℕ) → List ℕ → Type 0
Begins old new bytes =
    (put : List ℕ) × (rest : List ℕ) × Appends old new put × (bytes ≡ put ++ rest)

-- the lines that an answer sends
abbrev pub lines_in : Answer → List Parts
lines_in (sends lines) = lines
lines_in (welcomes lines) = lines
lines_in (fails f) = []

-- the lines that are sent for these lines, after others
abbrev pub sent_for : NetworkSettings → List Parts → List Parts → List Parts
sent_for network before [] = []
sent_for network before (line ∷ lines) =
    lines_in (answer_to network before line) ++ sent_for network (before ++ line ∷ []) lines

-- all lines that a registration sends, up to what it sends for the last of these lines
abbrev pub all_sent : NetworkSettings → List Parts → List Parts
all_sent network lines = first_lines network ++ sent_for network [] lines

-- the welcome comes after these lines, before the others
pub record IsWelcomed (network : NetworkSettings) (lines before : List Parts) (welcome : Parts)
    (after : List Parts) : Type 0 where
  pub whole : lines ≡ before ++ welcome ∷ after
  pub answer : answer_to network before welcome ≡ welcomes (join_lines network)

-- one of the lines is this fault of the registration
abbrev pub HasFault : NetworkSettings → List Parts → Answer → Type 0
HasFault network lines fault =
    (before : List Parts) × (line : Parts) × (after : List Parts)
    × (lines ≡ before ++ line ∷ after) × (answer_to network before line ≡ fault)

-- why it fails if these bytes were read: a line that is too long, or a fault of the
-- registration, or the input ended, or could not be read, before there was an end
abbrev pub IsCauseOf : NetworkSettings → List ℕ → DialFault → Type 0
IsCauseOf network bytes Memory = Unit {0}
IsCauseOf network bytes Write = is_too_long bytes ≡ false
IsCauseOf network bytes TooLong = IsTrue (is_too_long bytes)
IsCauseOf network bytes Read = (is_too_long bytes ≡ false) × (has_ended network (lines_of bytes) ≡ false)
IsCauseOf network bytes (Register f) =
    (is_too_long bytes ≡ false) × HasFault network (lines_of bytes) (fails f)

-- why one line could not be answered
abbrev pub IsStepCause : Answer → DialFault → Type 0
IsStepCause answer Memory = Unit {0}
IsStepCause answer Write = Unit {0}
IsStepCause answer (Register f) = answer ≡ fails f
IsStepCause answer _ = ⊥

-- why some lines could not be answered
abbrev pub IsLinesCause : NetworkSettings → List Parts → List Parts → DialFault → Type 0
IsLinesCause network before lines Memory = Unit {0}
IsLinesCause network before lines Write = Unit {0}
IsLinesCause network before lines (Register f) =
    (done : List Parts) × (line : Parts) × (after : List Parts)
    × (lines ≡ done ++ line ∷ after) × (answer_to network (before ++ done) line ≡ fails f)
IsLinesCause network before lines _ = ⊥

-- whether an answer is the end, which then is a welcome
abbrev pub IsEndedBy : NetworkSettings → Answer → Bool → Type 0
IsEndedBy network answer true = answer ≡ welcomes (join_lines network)
IsEndedBy network answer false = is_end answer ≡ false

-- the welcome is at this place of some lines, after others
abbrev pub IsWelcomeAt : NetworkSettings → List Parts → List Parts → ℕ → Type 0
IsWelcomeAt network before lines place =
    (welcome : Parts) × (place < length lines)
    × (drop place lines ≡ welcome ∷ drop (place + 1) lines)
    × (answer_to network (before ++ take place lines) welcome ≡ welcomes (join_lines network))

-- what a registration came to, by why its input was read no further
abbrev pub outcome_of : InputEnd (Result FromWelcome DialFault) → Result FromWelcome DialFault
outcome_of (input.Answered answer) = answer
outcome_of input.TooLong = Err TooLong
outcome_of input.OutOfMemory = Err Memory
outcome_of _ = Err Read

-- the state of a registration that has taken these lines, answered each, and goes on
pub record IsGoing (network : NetworkSettings) (was now : Option (List ℕ)) (register : Progress)
    (lines : List Parts) : Type 0 where
  pub taken : HasTaken network lines register
  pub going : has_ended network lines ≡ false
  pub sent : Appends was now (bytes_of (sent_for network [] lines))

-- the same, of each network at which it began
abbrev pub GoesOn : Progress → Option (List ℕ) → Option (List ℕ) → Progress → List Parts → Type 0
GoesOn first was now register lines =
    (network : NetworkSettings) → HasTaken network [] first → IsGoing network was now register lines

-- the welcome is among these lines, and each up to it was answered; or one of them is a fault, or
-- no more could be sent
abbrev pub IsEnded : NetworkSettings → Option (List ℕ) → Option (List ℕ) → List Parts
    → Result FromWelcome DialFault → Type 0
IsEnded network was now lines (Ok welcomed) =
    (before : List Parts) × (welcome : Parts) × (after : List Parts)
    × IsWelcomed network lines before welcome after
    × (welcomed.lines.items ≡ welcome ∷ after)
    × Appends was now (bytes_of (sent_for network [] (before ++ welcome ∷ [])))
IsEnded network was now lines (Err fault) =
    IsLinesCause network [] lines fault × Begins was now (bytes_of (sent_for network [] lines))

-- the same, of each network at which it began
abbrev pub EndsSo : Progress → Option (List ℕ) → Option (List ℕ) → List Parts
    → Result FromWelcome DialFault → Type 0
EndsSo first was now lines answer =
    (network : NetworkSettings) → HasTaken network [] first → IsEnded network was now lines answer

-- lines are only not sent for these causes
abbrev pub IsSendCause : DialFault → Type 0
IsSendCause Memory = Unit {0}
IsSendCause Write = Unit {0}
IsSendCause _ = ⊥
