use Rattle.std.proofs.Common.{rules}
use Rattle.irc_names.proofs.case_mapping.CaseMapping.order_to_key.Goals as goal

pub returns-then-ne : goal.returns-then-ne
returns-then-ne c = search rules
