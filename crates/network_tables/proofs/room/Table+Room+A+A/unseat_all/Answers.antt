use Rattle.network_tables.proofs.room.Table+Room+A+A.unseat_all.Goals as goal
use Rattle.network_tables.proofs.EachLemmas.{each_is, still_tabled}

pub invariant_of-self : goal.invariant_of-self
invariant_of-self g c =
    still_tabled _ _ _ _ _ c.self.invariant c.unseat_each.ensures
    c.slots_weight-self-inside.ensures

pub returns : goal.returns
returns g c =
    rw (← c.self.view_is) (each_is _ _ _ c.self.invariant.0 c.unseat_each.ensures)
