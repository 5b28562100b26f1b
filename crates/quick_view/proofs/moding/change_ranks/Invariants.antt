use Rattle.std.specs.FinMap as fin
use Rattle.quick_view.proofs.moding.change_ranks.Given as goal
use Rattle.{irc_support.specs.{Line.changes_in, Text.Text}, net_view.specs.MemberSets.ranks_changed}
use Rattle.{net_view.specs.StateLines.letter_change, quick_view.proofs.LastLemmas.IsSet}
use Rattle.std.{proofs.Common.{option_map, ◌≡◌}, specs.{List.filter_map, Option.ForSome}}

abbrev pub invariant-loop-change : goal.invariant-loop-change
invariant-loop-change g l = ((n : Text) → ForSome (fin.get l.fn.members.all n) IsSet) → (n : Text) →
    (option_map (ranks_changed (filter_map (letter_change l.support) (changes_in l.support l.line))
    n) (fin.get l.fn.members.all n)
    ≡ option_map (ranks_changed (filter_map (letter_change l.support) l.change-iterator) n)
    (fin.get l.members.all n))
    × ForSome (fin.get l.members.all n) IsSet
