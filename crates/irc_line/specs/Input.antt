-- The lines of an input that is read piece by piece.
use Rattle.std.specs.Prelude.{◌≡◌, ℕ, false, IsTrue, List, ◌++◌, Option, None, Some}
use Rattle.std.specs.List.{concat}
use Rattle.std.specs.Io.KnownBytes.{Consumes, IsAtEnd}
use Rattle.irc_line.specs.Line.{Parts}
use Rattle.irc_line.specs.Lines.{Pending, fed, fed_all, is_too_long, lines_all, lines_of, start}
use Rattle.irc_line.specs.declared.input.InputEnd.{InputEnd}
use Rattle.irc_line.specs.declared.input.InputEnd.TheVariants as cause

-- What came of one piece more, after these lines: `goes_on` says that what takes the lines goes on,
-- having taken these, and `answers` that it answered at one of them.
abbrev pub IsTaken : {A : Type 0} → (List Parts → Type 0) → (List Parts → A → Type 0)
    → List Parts → Pending → List ℕ → Pending → Option (InputEnd A) → Type 0
IsTaken goes_on answers before old piece new None =
    (new ≡ fed old piece) × (is_too_long (old.rest ++ piece) ≡ false)
    × goes_on (before ++ lines_of (old.rest ++ piece))
IsTaken goes_on answers before old piece new (Some (cause.Answered answer)) =
    (new ≡ fed old piece) × (is_too_long (old.rest ++ piece) ≡ false)
    × answers (before ++ lines_of (old.rest ++ piece)) answer
IsTaken goes_on answers before old piece new (Some cause.TooLong) =
    (new ≡ old) × IsTrue (is_too_long (old.rest ++ piece)) × goes_on before
IsTaken goes_on answers before old piece new (Some cause.OutOfMemory) =
    (new ≡ old) × (is_too_long (old.rest ++ piece) ≡ false) × goes_on before
IsTaken goes_on answers before old piece new (Some _) = ⊥

-- Why an input was read no further, if these bytes were taken before: what takes the lines
-- answered, or it goes on. `held` is what the last piece then comes after.
abbrev pub EndsBy : {A : Type 0} → Type 0 → (A → Type 0) → Option (List ℕ) → Option (List ℕ)
    → List ℕ → List ℕ → InputEnd A → Type 0
EndsBy goes_on answers began left bytes held (cause.Answered answer) =
    Consumes began left bytes × answers answer
EndsBy goes_on answers began left bytes held cause.EndOfInput =
    Consumes began left bytes × IsAtEnd left × goes_on
EndsBy goes_on answers began left bytes held (cause.ReadFault error) =
    Consumes began left bytes × goes_on
EndsBy goes_on answers began left bytes held cause.ReadsSpent = Consumes began left bytes × goes_on
EndsBy goes_on answers began left bytes held cause.TooLong =
    (piece : List ℕ) × Consumes began left (bytes ++ piece)
    × IsTrue (is_too_long (held ++ piece)) × goes_on
EndsBy goes_on answers began left bytes held cause.OutOfMemory =
    (piece : List ℕ) × Consumes began left (bytes ++ piece)
    × (is_too_long (held ++ piece) ≡ false) × goes_on

-- An input was read: the lines of these pieces, one after the other, and the splitter's rest were
-- taken, and nothing of the piece that was refused, if any.
pub record WasRead {A : Type 0} (goes_on : List Parts → Type 0)
    (answers : List Parts → A → Type 0) (old new : Pending) (began left : Option (List ℕ))
    (ended : InputEnd A) : Type 0 where
  pub pieces : List (List ℕ)
  pub held : new ≡ fed_all old pieces
  pub short : old ≡ start → is_too_long (concat pieces) ≡ false
  pub why : EndsBy (goes_on (lines_all old pieces)) (answers (lines_all old pieces)) began left
      (concat pieces) new.rest ended

-- The same of an input that was read from its start: the lines of these bytes were taken.
pub record WasReadAnew {A : Type 0} (goes_on : List Parts → Type 0)
    (answers : List Parts → A → Type 0) (began left : Option (List ℕ)) (ended : InputEnd A)
    (splitter : Pending) : Type 0 where
  pub bytes : List ℕ
  pub held : splitter ≡ fed start bytes
  pub short : is_too_long bytes ≡ false
  pub why : EndsBy (goes_on (lines_of bytes)) (answers (lines_of bytes)) began left bytes bytes
      ended
