use Rattle.journal.proofs.snapshotting.message_records.Goals as goal
use Rattle.std.proofs.{Common.{arith, rules}, lemmas.Grind.common_steps}

pub loop-item-init : goal.loop-item-init
loop-item-init c = search rules

pub loop-item-preserved : goal.loop-item-preserved
loop-item-preserved c = grind (arith, common_steps)

pub returns : goal.returns
returns c = grind (arith, common_steps)
