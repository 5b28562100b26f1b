use Rattle.hub_threads.proofs.reading.put_unrung.Goals as goal
use Rattle.std.proofs.{Common.arith, lemmas.Grind.common_steps}

pub loop-line-preserved : goal.loop-line-preserved
loop-line-preserved g c = grind (arith, common_steps)
