use Rattle.network_tables.proofs.marks.marks_of.Given as goal
use Rattle.network_tables.specs.{Head.head_of, Marks.is_marked, Table.entry_of}
use Rattle.std.proofs.Common.{get_or, true, ℕ, ◌<◌, ◌≡◌}

abbrev pub invariant-loop-place : goal.invariant-loop-place
invariant-loop-place g l =
    (j : ℕ) (d : _) → j < l.place →
    is_marked l.marks.items (head_of (entry_of (get_or l.slots.items j d)).0) ≡ true
