use Rattle.network_tables.proofs.room.Table+Room+A+A.rename_all.Goals as goal
use Rattle.network_tables.proofs.EachLemmas.{each_is, entries_are, still_tabled}

pub invariant_of-self : goal.invariant_of-self
invariant_of-self g c =
    still_tabled _ _ _ _ _ c.self.invariant c.rename_each.ensures
    c.slots_weight-self-inside.ensures

pub returns : goal.returns
returns g c =
    rw (← c.self.view_is) (each_is _ _ _ c.self.invariant.0 c.rename_each.ensures)

pub rename_each-requires : goal.rename_each-requires
rename_each-requires g c =
    rw (← c.self.view_is, entries_are _ c.self.invariant.0) at c.requires
