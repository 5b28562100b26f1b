use Rattle.irc_support.proofs.name_list.next_word.Given as goal
use Rattle.{irc_support.specs.NamesReply.words_between, std.proofs.Common.{length, ◌≡◌}}

abbrev pub invariant-loop-left : goal.invariant-loop-left
invariant-loop-left l = words_between l.left ≡ words_between l.text

abbrev pub decreases-loop-left : goal.decreases-loop-left
decreases-loop-left l = length l.left
