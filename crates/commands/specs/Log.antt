-- What `bnc log` prints of the bytes of a journal, and why it fails. The format is our own choice.
use Rattle.std.specs.Prelude.{◌≡◌, ◌-◌, ◌<◌, ℕ, List, Option, length}
use Rattle.std.specs.Io.KnownBytes.{Appends}
use Rattle.journal.specs.Header.{IsForeign, IsOfAnotherVersion}
use Rattle.journal.specs.Kept.{KeptParts, kept_parts, nothing}
use Rattle.journal.specs.Recalls.{RecallsFile}
use Rattle.journal.specs.Shown.{text_of_messages}
use Rattle.journal.specs.declared.damage.Damage.{Damage}
use Rattle.journal.specs.declared.recalling.Recalled.{Recalled}
use Rattle.commands.specs.declared.fault.Fault.{Fault}
use Rattle.commands.specs.declared.fault.Fault.TheVariants.{CannotWrite, Damaged, LaterVersion}
use Rattle.commands.specs.declared.fault.Fault.TheVariants.{NotAJournal, OutOfMemory}

-- what is recalled of these bytes, with all messages that a history can hold
abbrev pub IsRecalledOf : List ℕ → Recalled → Type 0
IsRecalledOf bytes r =
    RecallsFile (nothing 10000 0) bytes r.rings r.batches r.used r.damage (kept_parts r.kept)

-- the messages that are recalled, as text, and how many bytes at the end count for nothing
pub record IsLogOf (bytes : List ℕ) (text : List ℕ) (damaged : ℕ) : Type 0 where
  pub recalled : Recalled
  pub of : IsRecalledOf bytes recalled
  pub messages : text ≡ text_of_messages recalled.kept.history
  pub left : damaged ≡ length bytes - recalled.used

-- why the bytes are no journal
abbrev pub IsNoJournal : List ℕ → Fault → Type 0
IsNoJournal bytes NotAJournal = IsForeign bytes
IsNoJournal bytes LaterVersion = IsOfAnotherVersion bytes
IsNoJournal bytes OutOfMemory = Unit {0}
IsNoJournal bytes _ = ⊥

-- why the messages are not printed, or not without a fault: the bytes are no journal; or bytes at
-- the end count for nothing, and the messages before them are printed
abbrev pub IsCauseOf : List ℕ → Option (List ℕ) → Option (List ℕ) → Fault → Type 0
IsCauseOf bytes old new CannotWrite = Unit {0}
IsCauseOf bytes old new (Damaged count) =
    (text : List ℕ) × Appends old new text × IsLogOf bytes text count × (0 < count)
IsCauseOf bytes old new fault = IsNoJournal bytes fault
