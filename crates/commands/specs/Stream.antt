-- What `bnc view` prints of the bytes that a network sent, and why it fails.
use Rattle.std.specs.Prelude.{◌≡◌, ℕ, List, Option, IsTrue, false, map}
use Rattle.std.specs.Io.KnownBytes.{IsAtEnd}
use Rattle.irc_line.specs.Lines.{counted, is_too_long, lines_of, skipped_of}
use Rattle.net_view.specs.Arrival.{Arrival, Received}
use Rattle.net_view.specs.View.{view_of}
use Rattle.commands.specs.Report.{report_of}
use Rattle.commands.specs.declared.fault.Fault.{Fault}
use Rattle.commands.specs.declared.fault.Fault.TheVariants.{CannotRead, CannotWrite, LineTooLong}
use Rattle.commands.specs.declared.fault.Fault.TheVariants.{OutOfMemory}

-- the transcript that the bytes are: their lines, in order
abbrev pub transcript_of : List ℕ → List Arrival
transcript_of bytes = map Received (lines_of bytes)

-- the report of the view of that transcript; bytes after the last LF are no line
abbrev pub stream_report : List ℕ → List ℕ
stream_report bytes = report_of (view_of (transcript_of bytes)) (counted (skipped_of bytes))

-- why an input of which these bytes were read is refused: a line that is too long is reported if
-- there is one, and then no other fault is reported
abbrev pub IsRefusal : List ℕ → Fault → Type 0
IsRefusal bytes CannotRead = is_too_long bytes ≡ false
IsRefusal bytes LineTooLong = IsTrue (is_too_long bytes)
IsRefusal bytes OutOfMemory = is_too_long bytes ≡ false
IsRefusal bytes _ = ⊥

-- the same once the report may have been begun, if that is left to read: all was read before
abbrev pub IsCauseOf : List ℕ → Option (List ℕ) → Fault → Type 0
IsCauseOf bytes left CannotWrite = (is_too_long bytes ≡ false) × IsAtEnd left
IsCauseOf bytes left fault = IsRefusal bytes fault
