use Rattle.client_caps.proofs.request.read_request.Given as goal
use Rattle.{client_caps.specs.Request.request_of, irc_support.specs.NamesReply.words_between}
use Rattle.std.proofs.Common.{length, ◌≡◌}

abbrev pub invariant-loop-word : goal.invariant-loop-word
invariant-loop-word l = request_of l.asked l.left ≡ request_of l.fn.caps l.fn.text

abbrev pub decreases-loop-word : goal.decreases-loop-word
decreases-loop-word l = length (words_between l.left)
