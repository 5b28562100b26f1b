use Rattle.network_tables.proofs.table.Table.remove_by.Goals as goal
use Rattle.network_tables.proofs.{MarkLemmas.{marked_removed, not_there}, TableLemmas.removed_there}
use Rattle.network_tables.proofs.BytesLemmas.{went}
use Rattle.network_tables.proofs.TableLemmas.{by_bytes, got, got_none, key_is, removed_none_of}
use Rattle.network_tables.proofs.TableLemmas.{tabled_by}
use Rattle.{network_tables.specs.Table.entry_of, std.proofs.Common.{◌∙◌, rules, sym}}

pub invariant_of-self : goal.invariant_of-self
invariant_of-self g c =
    let at = c.in-Ok.ensures in
    let sorted = c.self.invariant.0 in
    let gone = c.remove-gone.ensures.value in
    let key = key_is by_bytes entry_of _ sorted at.bound at.place _ gone in
    rw c.remove-gone.ensures.items (tabled_by _ _ (removed_there by_bytes entry_of _ sorted
    at.bound at.place c.remove-gone.result)
    (marked_removed _ _ c.self.invariant.1.0 _)
    (went _ _ _ c.self.invariant.1.1 _ (got by_bytes entry_of _ sorted at.bound at.place _ gone)
    (rw (c.deref.ensures, key) at c.entry_weight.ensures) c.less-self-inside.ensures))

pub returns-in-Ok-clause-value : goal.returns-in-Ok-clause-value
returns-in-Ok-clause-value g c =
    rw (← c.self.view_is) (got by_bytes entry_of _ c.self.invariant.0 c.in-Ok.ensures.bound
    c.in-Ok.ensures.place _ c.remove-gone.ensures.value)

pub returns-in-Ok-clause-all : goal.returns-in-Ok-clause-all
returns-in-Ok-clause-all g c =
    let at = c.in-Ok.ensures in
    rw (← c.self.view_is, c.remove-gone.ensures.items)
    (removed_there by_bytes entry_of _ c.self.invariant.0 at.bound at.place c.remove-gone.result).is

pub returns-in-Err : goal.returns-in-Err
returns-in-Err g c =
    let at = c.in-Err.ensures in
    let none = got_none by_bytes entry_of _ c.self.invariant.0 at.bound at.place in
    let all = removed_none_of by_bytes _ _ none in
    rw (← c.self.view_is)
    (record { value = none; all = all; room = search rules; left = search rules })

pub returns-then-not-is_up-clause-all : goal.returns-then-not-is_up-clause-all
returns-then-not-is_up-clause-all g c =
    let down = sym c.is_up.ensures ∙ c.if-not-is_up.true in
    rw (← c.self.view_is)
    (removed_none_of by_bytes _ _ (not_there _ _ c.self.invariant.1.0 _ (rw c.requires.head at down)))
