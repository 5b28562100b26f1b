use Rattle.network_tables.proofs.numbered.Numbered.swap.Goals as goal
use Rattle.network_tables.proofs.BytesLemmas.{valued}
use Rattle.network_tables.proofs.NumberedLemmas.{holds, none_got, swapped_joined, swapped_old}
use Rattle.network_tables.proofs.NumberedLemmas.{swapped_put, swapped_there, swapped_tied}
use Rattle.network_tables.proofs.NumberedLemmas.{swapped_value}
use Rattle.{network_tables.specs.Sought.sought_key, std.proofs.Common.{refl, rules, sym}}

pub swap_in-requires : goal.swap_in-requires
swap_in-requires g c = holds c.self.invariant.tied _ _ c.in-Some.ensures

pub invariant_of-self : goal.invariant_of-self
invariant_of-self g c = record {
  tied = swapped_tied c.self.invariant.tied _ _ c.in-Some.ensures c.swap_in.ensures.cells;
  index_room = c.self.invariant.index_room;
  cell_room = c.swap_in.ensures.room c.self.inside.spare c.self.invariant.cell_room;
  weighs =
      let tied = c.self.invariant.tied in
      let cells = c.swap_in.ensures.cells in
      rw (swapped_put tied _ _ c.in-Some.ensures cells) (valued _ _ _ c.self.invariant.weighs _ _
      (swapped_old tied _ _ c.in-Some.ensures cells)
      (rw c.swap_in.ensures.value at c.weight.ensures) c.weight-came.ensures
      c.less.ensures c.more-self-inside.ensures);
}

pub returns-in-Some : goal.returns-in-Some
returns-in-Some g c =
    let tied = c.self.invariant.tied in
    let cells = c.swap_in.ensures.cells in
    rw (← c.self.view_is) (record {
      found = sym (swapped_there tied _ _ c.in-Some.ensures cells);
      all = swapped_joined tied _ _ c.in-Some.ensures cells;
      value = rw c.swap_in.ensures.value (swapped_value tied _ _ c.in-Some.ensures cells);
      room = search rules;
    })

pub returns-in-None : goal.returns-in-None
returns-in-None g c =
    let none = none_got c.self.invariant.tied (sought_key c.args.sought) c.in-None.ensures in
    rw (← c.self.view_is, ← none)
    (record { found = refl; all = refl; value = refl; room = refl })
