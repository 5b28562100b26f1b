use Rattle.client_caps.proofs.images.part_lines.Goals as goal
use Rattle.client_caps.proofs.ImageMade.{part_steps}
use Rattle.std.proofs.Common.{arith}

pub loop-place-init : goal.loop-place-init
loop-place-init g c = grind (arith, part_steps)
