use Rattle.hub_threads.proofs.backlog.Backlog.settle.Goals as goal
use Rattle.std.proofs.Common.{arith}
use Rattle.std.proofs.lemmas.Grind.{common_steps}

pub returns-then-bytes-capacity-clause-rest : goal.returns-then-bytes-capacity-clause-rest
returns-then-bytes-capacity-clause-rest c = grind (arith, common_steps)

pub returns-then-has_room-clause-rest : goal.returns-then-has_room-clause-rest
returns-then-has_room-clause-rest c = grind (arith, common_steps)
