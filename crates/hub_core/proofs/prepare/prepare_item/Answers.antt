use Rattle.hub_core.proofs.prepare.prepare_item.Goals as goal
use Rattle.hub_core.proofs.Words.{rules}

pub returns-clause-made : goal.returns-clause-made
returns-clause-made g c = search rules

pub returns-clause-numbered : goal.returns-clause-numbered
returns-clause-numbered g c = search rules
