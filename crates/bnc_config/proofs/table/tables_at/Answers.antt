use Rattle.bnc_config.proofs.table.tables_at.Goals as goal
use Rattle.{bnc_config.proofs.ItemsLemmas.fault_at-other_list, std.proofs.Common.inr}

pub returns-then-not-are_tables : goal.returns-then-not-are_tables
returns-then-not-are_tables c =
    inr (fault_at-other_list c.args.key _ _ c.in-Some-as_array.values.now.items c.in-Some.ensures
    c.in-Some-as_array.ensures (rw c.as_slice.ensures.value at c.if-not-are_tables.ensures))
