use Rattle.network_tables.proofs.table.Table.swap.Goals as goal
use Rattle.network_tables.proofs.BytesLemmas.{valued}
use Rattle.network_tables.proofs.{MarkLemmas.marked_written, TableLemmas.{by_bytes, got, got_none}}
use Rattle.network_tables.{proofs.TableLemmas.{tabled_by, written_there}, specs.Table.entry_of}
use Rattle.std.proofs.Common.{ap, is_some, refl, rules, sym}

pub invariant_of-self : goal.invariant_of-self
invariant_of-self g c =
    let found = c.in-Ok.ensures in
    let at = c.at_mut.ensures.value in
    let there = got by_bytes entry_of _ c.self.invariant.0 found.bound found.place _ at in
    tabled_by _ _ (written_there by_bytes entry_of _ c.self.invariant.0 found.bound found.place _ _
    at (ap (λ e. e.key.items) c.deref_mut.ensures.value))
    (marked_written _ _ c.self.invariant.1.0 _ _ (sym (ap is_some there)))
    (valued _ _ _ c.self.invariant.1.1 _ _ there
    (rw (c.swap.ensures.y_after, c.deref_mut.ensures.value) at c.weight.ensures)
    (rw c.swap.ensures.x_after c.weight-came.ensures)
    c.less.ensures c.more-self-inside.ensures)

pub returns-in-Ok : goal.returns-in-Ok
returns-in-Ok g c =
    let found = c.in-Ok.ensures in
    let at = c.at_mut.ensures.value in
    let there = got by_bytes entry_of _ c.self.invariant.0 found.bound found.place _ at in
    rw (← c.self.view_is, ← there) (record {
      found = refl;
      all = rw (← c.swap.ensures.x_after)
          (written_there by_bytes entry_of _ c.self.invariant.0 found.bound found.place _ _
          at (ap (λ e. e.key.items) c.deref_mut.ensures.value)).is;
      value = rw (c.swap.ensures.y_after, c.deref_mut.ensures.value);
      room = search rules;
    })

pub returns-in-Err : goal.returns-in-Err
returns-in-Err g c =
    let at = c.in-Err.ensures in
    let none = got_none by_bytes entry_of _ c.self.invariant.0 at.bound at.place in
    rw (← c.self.view_is, ← none)
    (record { found = refl; all = refl; value = refl; room = refl })
