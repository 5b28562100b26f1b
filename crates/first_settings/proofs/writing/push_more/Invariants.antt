use Rattle.first_settings.proofs.writing.push_more.Given as goal
use Rattle.{first_settings.specs.Written.more, irc_support.specs.NamesReply.words_between}
use Rattle.std.proofs.Common.{length, ◌++◌, ◌≡◌}

abbrev pub invariant-loop-word : goal.invariant-loop-word
invariant-loop-word l =
    l.fn.out.items ++ more (words_between l.fn.text) ≡ l.out.items ++ more (words_between l.left)

abbrev pub decreases-loop-word : goal.decreases-loop-word
decreases-loop-word l = length (words_between l.left)
