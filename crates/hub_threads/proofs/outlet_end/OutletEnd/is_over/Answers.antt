use Rattle.hub_threads.proofs.outlet_end.OutletEnd.is_over.Goals as goal
use Rattle.{hub_threads.proofs.Lists.closed_is, rtrb.specs.Ring.received, std.proofs.Common.ap}
use Rattle.std.proofs.Common.{inl, is_some, sym, ◌∙◌}

pub returns-else-are_over-clause-over : goal.returns-else-are_over-clause-over
returns-else-are_over-clause-over c h = inl (sym (ap is_some (closed_is
    (received c.looks_left.new.self.consumer) c.looks_left.new.self.closed
    c.looks_left.new.self.ended))
    ∙ (sym c.is_some.ensures ∙ h))
