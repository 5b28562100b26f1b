use Rattle.network_tables.proofs.modes.Modes.copy.Goals as goal

pub invariant_of-result : goal.invariant_of-result
invariant_of-result g c = rw (c.in_ok-modes_copy.ensures, c.deref.ensures.value) c.self.invariant
