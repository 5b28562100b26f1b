-- How a fault is reported, and which fault an error is. The texts are our own choice.
use Rattle.std.specs.Prelude.{◌≡◌, ◌≢◌, ◌++◌, ℕ, List, codes, string_bytes}
use Rattle.std.specs.Fmt.{decimal}
use Rattle.std.specs.declared.io.ErrorKind.{ErrorKind}
use Rattle.std.specs.declared.io.ErrorKind.TheVariants as kind
use Rattle.bnc_config.specs.ConfigFault as config
use Rattle.commands.specs.declared.fault.Fault.{Fault}
use Rattle.commands.specs.declared.fault.Fault.TheVariants.{CannotListen, CannotListenAt}
use Rattle.commands.specs.declared.fault.Fault.TheVariants.{CannotRead, CannotReadFile, CannotWrite}
use Rattle.commands.specs.declared.fault.Fault.TheVariants.{Damaged, Exists, LaterVersion, LineTooLong}
use Rattle.commands.specs.declared.fault.Fault.TheVariants.{NoAnswer, NobodyReads, NotAJournal}
use Rattle.commands.specs.declared.fault.Fault.TheVariants.{NotReady, OutOfMemory, Settings}
use Rattle.commands.specs.declared.fault.Fault.TheVariants.{SettingsAt}

-- the text that reports a fault
abbrev pub text_of : Fault → List ℕ
text_of CannotListen = codes "cannot listen"
text_of (CannotListenAt why) = codes "cannot listen\nbnc: " ++ string_bytes why
text_of CannotRead = codes "cannot read"
text_of (CannotReadFile why) = codes "cannot read\nbnc: " ++ string_bytes why
text_of CannotWrite = codes "cannot write"
text_of (Damaged count) = decimal count ++ codes " bytes at the end are damaged"
text_of (Exists path) = string_bytes path ++ codes " exists"
text_of LaterVersion = codes "a journal of a later version"
text_of LineTooLong = codes "line too long"
text_of NoAnswer = codes "no answer"
text_of (NobodyReads path) = codes "nobody reads " ++ string_bytes path
text_of NotAJournal = codes "not a journal"
text_of NotReady = codes "not ready"
text_of OutOfMemory = codes "out of memory"
text_of (Settings fault) = config.text_of fault
text_of (SettingsAt fault place) =
    config.text_of fault ++ (codes "\nbnc: " ++ string_bytes place)

-- the fault of a read that failed with an error of this kind
abbrev pub reading_fault : ErrorKind → Fault
reading_fault kind.OutOfMemory = OutOfMemory
reading_fault _ = CannotRead

-- the fault of a settings file whose read failed so; the reason may be left out
abbrev pub IsFileFault : ErrorKind → Fault → Type 0
IsFileFault k OutOfMemory = k ≡ kind.OutOfMemory
IsFileFault k CannotRead = k ≢ kind.OutOfMemory
IsFileFault k (CannotReadFile why) = k ≢ kind.OutOfMemory
IsFileFault k _ = ⊥
