use Rattle.network_tables.proofs.table.Table.get_near.Goals as goal
use Rattle.network_tables.{proofs.TableLemmas.{by_bytes, got, got_none}, specs.Table.entry_of}

pub returns-in-Ok : goal.returns-in-Ok
returns-in-Ok g c =
    let found = c.in-Ok.ensures in
    rw (← c.self.view_is, c.deref.ensures)
    (got by_bytes entry_of _ c.self.invariant.0 found.bound found.place _ c.at.ensures)

pub returns-in-Err : goal.returns-in-Err
returns-in-Err g c =
    rw (← c.self.view_is)
    (got_none by_bytes entry_of _ c.self.invariant.0 c.in-Err.ensures.bound c.in-Err.ensures.place)
