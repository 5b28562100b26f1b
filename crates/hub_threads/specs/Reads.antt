-- What a thread that reads a network did.
use Rattle.std.specs.Prelude.{◌≡◌, ℕ, IsTrue, List, [], ◌∷◌, ◌++◌, Option, map}
use Rattle.std.specs.List.{concat}
use Rattle.std.specs.Io.KnownBytes.{Consumes, IsAtEnd}
use Rattle.irc_line.specs.Line.{Parts}
use Rattle.irc_line.specs.Lines.{Pending, fed_all, lines_all, is_too_long}
use Rattle.net_view.specs.Arrival.{Lost, Received}
use Rattle.hub_ends.specs.Came.{Came, arrivals}
use Rattle.irc_line.specs.declared.input.InputEnd.{InputEnd}
use Rattle.irc_line.specs.declared.input.InputEnd.TheVariants as input
use Rattle.std.specs.declared.convert.Infallible.{Infallible}
use Rattle.hub_threads.specs.declared.reading.ReadEnd.{ReadEnd}
use Rattle.hub_threads.specs.declared.reading.ReadEnd.TheVariants as cause

-- lines as they come at a moment, in milliseconds since 1970-01-01T00:00:00Z
abbrev pub received_at : ℕ → List Parts → List Came
received_at moment lines = map (λ (line : Parts). (Received line, moment)) lines

-- why it ended, by why its input was read no further
abbrev pub why_of : InputEnd Infallible → ReadEnd
why_of input.EndOfInput = cause.EndOfInput
why_of (input.ReadFault error) = cause.ReadFault
why_of input.TooLong = cause.TooLong
why_of input.OutOfMemory = cause.OutOfMemory
why_of _ = cause.TurnsSpent

-- Why it ended: what the splitter held then, the piece that was refused, if any, and what is left
-- to read.
abbrev pub IsReadCause : Pending → List ℕ → Option (List ℕ) → ReadEnd → Type 0
IsReadCause held refused left cause.EndOfInput = (refused ≡ []) × IsAtEnd left
IsReadCause held refused left cause.ReadFault = refused ≡ []
IsReadCause held refused left cause.TooLong = IsTrue (is_too_long (held.rest ++ refused))
IsReadCause held refused left cause.OutOfMemory = Unit {0}
IsReadCause held refused left cause.TurnsSpent = refused ≡ []

-- A network was read: from these pieces, one after the other, and the splitter's rest, came the
-- lines that were put, in order, and then one loss, and nothing else.
pub record IsReadIn (splitter : Pending) (was now : List Came) (began left : Option (List ℕ))
    (ended : ReadEnd) : Type 0 where
  pub pieces : List (List ℕ)
  -- the piece that was refused, and put nothing; nothing, if none was
  pub refused : List ℕ
  pub read : Consumes began left (concat pieces ++ refused)
  pub put : arrivals now ≡ arrivals was ++ (map Received (lines_all splitter pieces) ++ Lost ∷ [])
  pub why : IsReadCause (fed_all splitter pieces) refused left ended
