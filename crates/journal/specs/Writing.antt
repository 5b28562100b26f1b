-- Why a batch was not written.
use Rattle.irc_line.specs.declared.line.MakeError.{MakeError}
use Rattle.irc_line.specs.declared.line.MakeError.TheVariants as make
use Rattle.journal.specs.declared.texts.PushError.{PushError}
use Rattle.journal.specs.declared.texts.PushError.TheVariants as push

-- as which refusal that of a line counts
abbrev pub push_error_of : MakeError → PushError
push_error_of make.NotALine = push.NoRecord
push_error_of make.OutOfMemory = push.OutOfMemory
