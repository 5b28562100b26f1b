-- An input that was read.
use Rattle.std.specs.declared.io.ErrorKind.TheVariants as kind
use Rattle.commands.specs.{Faults.reading_fault, Stream.IsRefusal, declared.fault.Fault.Fault}
use Rattle.irc_line.specs.Lines.{Pending, counted, fed, is_too_long, skipped_of, start}
use Rattle.std.proofs.Common.{List, ap, false, zero-add, ℕ, ◌∙◌, ◌≡◌}
use Rattle.std.specs.declared.io.ErrorKind.{ErrorKind}

-- how many lines a splitter has skipped in all
pub skipped_in : (s : Pending) (bytes : List ℕ) (n : ℕ) → n ≡ s.skipped → s ≡ fed start bytes
    → n ≡ counted (skipped_of bytes)
skipped_in s bytes n is held = is ∙ rw held (ap counted (zero-add (skipped_of bytes)))

-- why a read fails
pub reading_refusal : (bytes : List ℕ) (k : ErrorKind) (fault : Fault) → fault ≡ reading_fault k
    → is_too_long bytes ≡ false → IsRefusal bytes fault
reading_refusal bytes kind.OutOfMemory fault is h = rw is h
reading_refusal bytes _ fault is h = rw is h
