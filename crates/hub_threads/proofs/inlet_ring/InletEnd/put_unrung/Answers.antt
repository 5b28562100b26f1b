use Rattle.hub_threads.proofs.inlet_ring.InletEnd.put_unrung.Goals as goal
use Rattle.std.proofs.{Common.{arith, rules}, lemmas.Grind.common_steps}

pub returns-in-Ok-clause-ok : goal.returns-in-Ok-clause-ok
returns-in-Ok-clause-ok c = grind (arith, common_steps)

pub returns-in-Err-Full-clause-full : goal.returns-in-Err-Full-clause-full
returns-in-Err-Full-clause-full c = search rules
