use Rattle.std.proofs.Common.{arith, sym}
use Rattle.network_tables.proofs.BytesLemmas.{came}
use Rattle.network_tables.proofs.NumberedLemmas.{none_there, put_tied, put_joined}
use Rattle.network_tables.proofs.numbered.Numbered.put.Goals as goal

pub invariant_of-self : goal.invariant_of-self
invariant_of-self g c =
    let room = rw (← c.self.view_is) at c.requires.room in
    let old = c.self.invariant in
    let index_room = c.insert.ensures.room in
    let cells = c.insert_reserved-cell.ensures in
    let joined = put_joined old.tied (none_there old.tied _ (rw (← c.self.view_is)
    at c.requires.none)) cells.was_vacant
    (rw (c.deref_mut.ensures.value, c.args.fresh.same) at c.insert.ensures.all) cells.updates in
    record {
      tied = put_tied old.tied (none_there old.tied _ (rw (← c.self.view_is) at c.requires.none))
          cells.was_vacant
          (rw (c.deref_mut.ensures.value, c.args.fresh.same) at c.insert.ensures.all) cells.updates;
      index_room = omega (arith, room, old.index_room, index_room);
      cell_room = omega (arith, room, old.cell_room, cells.len, cells.capacity);
      weighs = rw joined (came _ _ _ old.weighs _ (sym (rw (← c.self.view_is) at c.requires.none))
          c.known_weight.ensures c.more-self-inside.ensures);
    }

pub returns-clause-all : goal.returns-clause-all
returns-clause-all g c =
    let tied = c.self.invariant.tied in
    let cells = c.insert_reserved-cell.ensures in
    rw (← c.self.view_is)
    (put_joined tied (none_there tied _ (rw (← c.self.view_is) at c.requires.none))
    cells.was_vacant (rw (c.deref_mut.ensures.value, c.args.fresh.same) at c.insert.ensures.all)
    cells.updates)
