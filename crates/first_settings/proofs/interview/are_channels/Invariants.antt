use Rattle.first_settings.proofs.interview.are_channels.Given as goal
use Rattle.first_settings.proofs.Channels.{channels_after}
use Rattle.{first_settings.specs.Questions.are_channels, std.proofs.Common.{length, ◌≡◌, ◌≤◌}}
use Rattle.irc_support.specs.NamesReply.{words_between}

abbrev pub invariant-loop-word : goal.invariant-loop-word
invariant-loop-word l =
    (l.count ≤ 64) × (are_channels l.fn.line ≡ channels_after l.count l.left)

abbrev pub decreases-loop-word : goal.decreases-loop-word
decreases-loop-word l = length (words_between l.left)
