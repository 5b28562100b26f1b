use Rattle.irc_names.proofs.case_mapping.CaseMapping.order.Given as goal
use Rattle.{irc_names.specs.CaseMapping.key_of, std.proofs.Common.{length, ◌≡◌}}
use Rattle.std.specs.{Cmp.Lexicographic.slice_cmp, Ordering.nat_cmp}

-- what is left decides
abbrev pub invariant-loop-a : goal.invariant-loop-a
invariant-loop-a l =
    slice_cmp nat_cmp (key_of l.self l.a) (key_of l.self l.b)
    ≡ slice_cmp nat_cmp (key_of l.self l.fn.a) (key_of l.self l.fn.b)

abbrev pub decreases-loop-a : goal.decreases-loop-a
decreases-loop-a l = length l.a
