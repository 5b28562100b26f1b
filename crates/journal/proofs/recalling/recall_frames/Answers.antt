use Rattle.journal.proofs.recalling.recall_frames.Goals as goal
use Rattle.{journal.proofs.InOrder.{no_second, recalled_all, recalled_part, stops_within}, std.proofs.Common.{rules, sym, ◌∙◌}}

pub slice_bounds-from_slice-end : goal.slice_bounds-from_slice-end
slice_bounds-from_slice-end c =
    stops_within _ _ _ _ _
    (c.in_ok-all.ensures.items ∙ c.deref.ensures.value ∙ sym c.deref-in-Until.ensures.value)
    (rw c.in-Until.is at c.in_ok-kept.ensures.redone)

pub returns-in-All-clause-recalls : goal.returns-in-All-clause-recalls
returns-in-All-clause-recalls c = search (rules, recalled_all)

pub returns-in-All-2-clause-recalls : goal.returns-in-All-2-clause-recalls
returns-in-All-2-clause-recalls c = search (rules, recalled_part)

pub unreachable-requires : goal.unreachable-requires
unreachable-requires c = search (rules, no_second)
