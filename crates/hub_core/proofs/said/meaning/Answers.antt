use Rattle.hub_core.proofs.said.meaning.Goals as goal
use Rattle.hub_core.proofs.Words.{rules}

pub returns-else-is_unheard : goal.returns-else-is_unheard
returns-else-is_unheard c = search rules
