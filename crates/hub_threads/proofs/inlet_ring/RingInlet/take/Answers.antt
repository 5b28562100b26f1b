use Rattle.hub_threads.proofs.inlet_ring.RingInlet.take.Goals as goal
use Rattle.std.proofs.Common.{◌∙◌}

pub returns-after-is_half_empty-clause-ends : goal.returns-after-is_half_empty-clause-ends
returns-after-is_half_empty-clause-ends c end ends =
    let ring = c.pop.ensures.ring.0 in
    c.is_half_empty-is_half_empty.ensures.ends end
    (ring.0 ∙ ends.0, ring.1 ∙ ends.1, ring.2 ∙ ends.2, ring.3 ∙ ends.3)
