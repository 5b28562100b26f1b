use Rattle.std.proofs.Common.{rules}
use Rattle.irc_names.proofs.case_mapping.CaseMapping.fold_byte.Goals as goal

pub returns-in_default : goal.returns-in_default
returns-in_default c = search rules
