use Rattle.network_tables.proofs.modes.Modes.set.Goals as goal
use Rattle.network_tables.proofs.TableLemmas.{by_letters, inserted_there, put_there}
use Rattle.{network_tables.specs.Modes.mode_of, std.proofs.Common.refl}

pub invariant_of-self : goal.invariant_of-self
invariant_of-self g c =
    rw c.write_at.ensures ((put_there by_letters mode_of _ c.self.invariant
    (rw c.deref.ensures.value at c.in-Ok.ensures.bound)
    (rw c.deref.ensures.value at c.in-Ok.ensures.place) _ refl).sorted)

pub invariant_of-self-in-Err : goal.invariant_of-self-in-Err
invariant_of-self-in-Err g c =
    rw (c.insert_at.ensures.items, c.in_ok-reserve-in-Err.ensures.items)
    ((inserted_there by_letters mode_of _ c.self.invariant
    (rw c.deref.ensures.value at c.in-Err.ensures.bound)
    (rw c.deref.ensures.value at c.in-Err.ensures.place) _ refl).sorted)

pub returns-in-Ok : goal.returns-in-Ok
returns-in-Ok g c =
    rw (← c.self.view_is, c.write_at.ensures)
    (put_there by_letters mode_of _ c.self.invariant
    (rw c.deref.ensures.value at c.in-Ok.ensures.bound)
    (rw c.deref.ensures.value at c.in-Ok.ensures.place) _ refl).is

pub returns-in_ok-reserve-in-Err : goal.returns-in_ok-reserve-in-Err
returns-in_ok-reserve-in-Err g c =
    rw (← c.self.view_is, c.insert_at.ensures.items, c.in_ok-reserve-in-Err.ensures.items)
    (inserted_there by_letters mode_of _ c.self.invariant
    (rw c.deref.ensures.value at c.in-Err.ensures.bound)
    (rw c.deref.ensures.value at c.in-Err.ensures.place) _ refl).is
