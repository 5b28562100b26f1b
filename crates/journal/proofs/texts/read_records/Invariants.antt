use Rattle.std.proofs.Common.{◌≡◌, length}
use Rattle.journal.specs.Reading.{records_in, records_on}
use Rattle.journal.specs.Records.{parts_of_all}
use Rattle.journal.proofs.texts.read_records.Given as goal

abbrev pub invariant-loop-rest : goal.invariant-loop-rest
invariant-loop-rest l = records_on (parts_of_all l.records.items) l.rest ≡ records_in l.lines

abbrev pub decreases-loop-rest : goal.decreases-loop-rest
decreases-loop-rest l = length l.rest
