use Rattle.tape_view.proofs.Words.{None, key_by, says_topic}
use Rattle.tape_view.proofs.tape.Tape.topic.Goals as goal
use Rattle.tape_view.proofs.{LastLine.asked, LastLine.unsaid, LastLine.silent_anew}

pub returns-in-Some-says_topic : goal.returns-in-Some-says_topic
returns-in-Some-says_topic g c =
    cc (asked c.in-Some.ensures.last (λ s. says_topic (key_by s c.args.channel.now)) None _
    c.in-Some-says_topic.ensures)

pub loop-said-preserved : goal.loop-said-preserved
loop-said-preserved g c =
    unsaid c.in-Some.ensures.last (λ s. says_topic (key_by s c.args.channel.now)) None _
    (λ us t. silent_anew _ us t _ _) c.in_default-says_topic.ensures c.loop-said.invariant
