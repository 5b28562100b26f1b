use Rattle.network_tables.proofs.table.Table.insert_near.Goals as goal
use Rattle.network_tables.proofs.BytesLemmas.{came, changed}
use Rattle.network_tables.proofs.{MarkLemmas.put_marked, TableLemmas.{by_bytes, inserted_there}}
use Rattle.network_tables.proofs.TableLemmas.{got, got_none, key_is, put_there, tabled_by}
use Rattle.network_tables.specs.Table.{entry_of}
use Rattle.std.proofs.Common.{refl}

pub invariant_of-slot-clause-bytes : goal.invariant_of-slot-clause-bytes
invariant_of-slot-clause-bytes g c =
    rw (c.deref-2.ensures.value, c.deref.ensures) at c.key_head-head.ensures.bytes

pub invariant_of-slot-clause-same : goal.invariant_of-slot-clause-same
invariant_of-slot-clause-same g c =
    rw (c.deref-2.ensures.value, c.deref.ensures) at c.key_head-head.ensures.head

pub invariant_of-slot-in-Err-clause-bytes : goal.invariant_of-slot-in-Err-clause-bytes
invariant_of-slot-in-Err-clause-bytes g c =
    rw (c.deref-2.ensures.value, c.deref.ensures) at c.key_head-head.ensures.bytes

pub invariant_of-slot-in-Err-clause-same : goal.invariant_of-slot-in-Err-clause-same
invariant_of-slot-in-Err-clause-same g c =
    rw (c.deref-2.ensures.value, c.deref.ensures) at c.key_head-head.ensures.head

pub invariant_of-self : goal.invariant_of-self
invariant_of-self g c =
    let sorted = c.self.invariant.0 in
    let bound = c.in-Ok.ensures.bound in
    let found = rw (c.deref-4.ensures.value, c.deref-3.ensures) at c.in-Ok.ensures.place in
    let there = got by_bytes entry_of _ sorted bound found _ c.at.ensures in
    let key = key_is by_bytes entry_of _ sorted bound found _ c.at.ensures in
    tabled_by _ _ (put_there by_bytes entry_of _ sorted bound found _ refl)
    (put_marked _ _ _ _ _ _ c.self.invariant.1.0 c.put_up.ensures
    (rw (c.deref-2.ensures.value, c.deref.ensures) at c.key_head-head.ensures.head))
    (changed _ _ _ c.self.invariant.1.1 _ _ there
    (rw (c.deref-in-Ok.ensures, key) at c.entry_weight-gone.ensures)
    (rw c.deref-5.ensures at c.entry_weight-bytes.ensures)
    c.less.ensures c.more-self-inside.ensures)

pub invariant_of-self-in-Err : goal.invariant_of-self-in-Err
invariant_of-self-in-Err g c =
    let sorted = c.self.invariant.0 in
    let bound = c.in-Err.ensures.bound in
    let found = rw (c.deref-4.ensures.value, c.deref-3.ensures) at c.in-Err.ensures.place in
    rw c.insert.ensures.items (tabled_by _ _
    (inserted_there by_bytes entry_of _ sorted bound found _ refl)
    (put_marked _ _ _ _ _ _ c.self.invariant.1.0 c.put_up.ensures
    (rw (c.deref-2.ensures.value, c.deref.ensures) at c.key_head-head.ensures.head))
    (came _ _ _ c.self.invariant.1.1 _ (got_none by_bytes entry_of _ sorted bound found)
    (rw c.deref-5.ensures at c.entry_weight-bytes.ensures) c.more-self-inside-in-Err.ensures))

pub returns-in-Ok-clause-all : goal.returns-in-Ok-clause-all
returns-in-Ok-clause-all g c =
    rw (← c.self.view_is)
    (put_there by_bytes entry_of _ c.self.invariant.0 c.in-Ok.ensures.bound
    (rw (c.deref-4.ensures.value, c.deref-3.ensures) at c.in-Ok.ensures.place) _ refl).is

pub returns-in-Err-clause-all : goal.returns-in-Err-clause-all
returns-in-Err-clause-all g c =
    rw (← c.self.view_is, c.insert.ensures.items)
    (inserted_there by_bytes entry_of _ c.self.invariant.0 c.in-Err.ensures.bound
    (rw (c.deref-4.ensures.value, c.deref-3.ensures) at c.in-Err.ensures.place) _ refl).is
