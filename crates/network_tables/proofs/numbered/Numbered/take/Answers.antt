use Rattle.network_tables.proofs.numbered.Numbered.take.Goals as goal
use Rattle.network_tables.proofs.BytesLemmas.{went}
use Rattle.network_tables.proofs.NumberedLemmas.{got, holds, key_of_cell, none_got, taken_joined}
use Rattle.network_tables.proofs.NumberedLemmas.{taken_tied}
use Rattle.network_tables.{proofs.TableLemmas.{by_bytes, removed_none_of}, specs.Sought.sought_key}
use Rattle.std.proofs.Common.{arith, refl, rules, sym}

pub invariant_of-self : goal.invariant_of-self
invariant_of-self g c =
    let room = c.remove.ensures.room in
    let old = c.self.invariant in
    let same = removed_none_of by_bytes _ _ c.in_err-number.ensures.value in
    record {
      tied = rw (c.remove.ensures.all, ← same) old.tied;
      index_room = omega (arith, room, old.index_room);
      cell_room = old.cell_room;
      weighs = rw (c.remove.ensures.all, ← same) old.weighs;
    }

pub returns-in_err-number : goal.returns-in_err-number
returns-in_err-number g c =
    let number = c.in_err-number.ensures.value in
    let none = none_got c.self.invariant.tied (sought_key c.args.sought) number in
    let same = removed_none_of by_bytes _ _ number in
    rw (← c.self.view_is, ← none, c.from_residual.ensures) (record {
      value = refl;
      all = rw (c.remove.ensures.all, ← same) (removed_none_of by_bytes _ _ none);
      room = search rules;
      left = search rules;
    })

pub remove-known-requires : goal.remove-known-requires
remove-known-requires g c =
    holds c.self.invariant.tied _ _ (rw (← c.deref.ensures) at c.in_ok-number.ensures.value)

pub invariant_of-self-2 : goal.invariant_of-self-2
invariant_of-self-2 g c =
    let number = rw (← c.deref.ensures) at c.in_ok-number.ensures.value in
    let left = c.in_ok-number.ensures.left refl in
    let old = c.self.invariant in
    let cells = c.remove-known.ensures in
    let spare = c.saturating_add-self-inside.ensures in
    let key = key_of_cell old.tied _ _ _ number (sym cells.value) in
    record {
      tied = taken_tied old.tied _ number c.remove.ensures.all cells.updates;
      index_room = omega (arith, left, old.index_room, spare);
      cell_room = omega (arith, old.cell_room, cells.len, cells.capacity, spare);
      weighs = rw (taken_joined old.tied _ number c.remove.ensures.all cells.updates)
          (went _ _ _ old.weighs _ (got old.tied _ _ _ number (sym cells.value))
          (rw key at c.known_weight.ensures) c.less-self-inside.ensures);
    }

pub returns-clause-value : goal.returns-clause-value
returns-clause-value g c =
    rw (← c.self.view_is)
    (got c.self.invariant.tied _ _ _ (rw (← c.deref.ensures) at c.in_ok-number.ensures.value)
    (sym c.remove-known.ensures.value))

pub returns-clause-all : goal.returns-clause-all
returns-clause-all g c =
    rw (← c.self.view_is)
    (taken_joined c.self.invariant.tied _ (rw (← c.deref.ensures) at c.in_ok-number.ensures.value)
    c.remove.ensures.all c.remove-known.ensures.updates)
