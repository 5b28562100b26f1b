use Rattle.irc_support.proofs.pending.remove.Given as goal
use Rattle.{indexmap.specs.IndexMap.spare, irc_support.specs.Edits.is_kept, std.proofs.Common.◌≤◌}
use Rattle.std.proofs.lemmas.List.Filters.{FiltersInPlace}

abbrev pub invariant-loop-place : goal.invariant-loop-place
invariant-loop-place g l =
    (spare l.fn.tokens ≤ spare l.tokens) ×
    FiltersInPlace (λ e. is_kept l.fn.names.keys e.0.items) l.fn.tokens.entries l.tokens.entries
    l.kept l.place
