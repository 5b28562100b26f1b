use Rattle.network_tables.proofs.person.retain_seen.Goals as goal
use Rattle.net_view.{proofs.Keys.bytes_exact, specs.Names.bytes_cmp}
use Rattle.network_tables.proofs.NumberedLemmas.{retained_joined, retained_tied}
use Rattle.network_tables.{proofs.ShownLemmas.retain-shown, specs.People.known_of}
use Rattle.std.{proofs.Common.arith, specs.Cmp.Lexicographic.nat_list_cmp_total}

pub cells_weight-people-inside-requires : goal.cells_weight-people-inside-requires
cells_weight-people-inside-requires g c =
    retained_tied c.people.invariant.tied _ _ c.retain_numbers.ensures c.retain_cells.ensures.cells

pub invariant_of-people : goal.invariant_of-people
invariant_of-people g c = record {
  tied = retained_tied c.people.invariant.tied _ _ c.retain_numbers.ensures
      c.retain_cells.ensures.cells;
  index_room = omega arith;
  cell_room = c.retain_cells.ensures.room;
  weighs = c.cells_weight-people-inside.ensures;
}

pub returns : goal.returns
returns g c =
    let joined = retained_joined c.people.invariant.tied c.retain_cells.new.cells _
    c.retain_numbers.ensures c.retain_cells.ensures.cells in
    rw (← c.people.view_is, ← retain-shown bytes_cmp known_of nat_list_cmp_total bytes_exact)
    (rw joined)
