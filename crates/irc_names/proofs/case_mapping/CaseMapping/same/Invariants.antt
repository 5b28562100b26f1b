use Rattle.irc_names.proofs.case_mapping.CaseMapping.same.Given as goal
use Rattle.{irc_names.specs.CaseMapping.AreOneName, std.proofs.Common.{length, ◌↔◌}}

-- what is left decides
abbrev pub invariant-loop-a : goal.invariant-loop-a
invariant-loop-a l = AreOneName l.self l.a l.b ↔ AreOneName l.self l.fn.a l.fn.b

abbrev pub decreases-loop-a : goal.decreases-loop-a
decreases-loop-a l = length l.a
