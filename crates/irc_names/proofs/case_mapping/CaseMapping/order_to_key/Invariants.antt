use Rattle.irc_names.proofs.case_mapping.CaseMapping.order_to_key.Given as goal
use Rattle.{irc_names.specs.CaseMapping.key_of, std.proofs.Common.{length, ◌≡◌}}
use Rattle.std.specs.{Cmp.Lexicographic.slice_cmp, Ordering.nat_cmp}

-- what is left decides
abbrev pub invariant-loop-name : goal.invariant-loop-name
invariant-loop-name l =
    slice_cmp nat_cmp (key_of l.self l.name) l.key
    ≡ slice_cmp nat_cmp (key_of l.self l.fn.name) l.fn.key

abbrev pub decreases-loop-name : goal.decreases-loop-name
decreases-loop-name l = length l.name
