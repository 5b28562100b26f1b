use Rattle.journal.proofs.InParts.{in_parts}
use Rattle.journal.proofs.laws.records_in_parts.Goals as goal

pub returns : goal.returns
returns c = in_parts
