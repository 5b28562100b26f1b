use Rattle.welcome.proofs.persons.push_facts_of.Goals as goal
use Rattle.std.proofs.Common.{arith}
use Rattle.std.proofs.lemmas.Grind.{common_steps}

pub returns-in_ok-push_away : goal.returns-in_ok-push_away
returns-in_ok-push_away g c = grind (arith, common_steps)

pub returns-else-caps-2 : goal.returns-else-caps-2
returns-else-caps-2 g c = grind (arith, common_steps)
