use Rattle.network_tables.proofs.modes.Modes.unset.Goals as goal
use Rattle.network_tables.proofs.TableLemmas.{by_letters, got_none, removed_none_of, removed_there}
use Rattle.{network_tables.specs.Modes.mode_of, std.proofs.Common.None}

pub invariant_of-self : goal.invariant_of-self
invariant_of-self g c =
    rw c.remove_at.ensures ((removed_there by_letters mode_of _ c.self.invariant
    (rw c.deref.ensures.value at c.in-Ok.ensures.bound)
    (rw c.deref.ensures.value at c.in-Ok.ensures.place)
    (record { letter = c.args.letter; param = None })).sorted)

pub returns-in-Ok : goal.returns-in-Ok
returns-in-Ok g c =
    rw (← c.self.view_is, c.remove_at.ensures)
    (removed_there by_letters mode_of _ c.self.invariant
    (rw c.deref.ensures.value at c.in-Ok.ensures.bound)
    (rw c.deref.ensures.value at c.in-Ok.ensures.place)
    (record { letter = c.args.letter; param = None })).is

pub returns-in_default : goal.returns-in_default
returns-in_default g c =
    rw (← c.self.view_is)
    (removed_none_of by_letters _ _ (got_none by_letters mode_of _ c.self.invariant
    (rw c.deref.ensures.value at c.in_default.ensures.bound)
    (rw c.deref.ensures.value at c.in_default.ensures.place)))
