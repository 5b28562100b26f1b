use Rattle.tape_view.proofs.tape.Tape.name_on.Goals as goal
use Rattle.tape_view.proofs.{LastLine.asked, Words.{None, key_by, says_on}}

pub returns-in-Some-says_on : goal.returns-in-Some-says_on
returns-in-Some-says_on g c =
    cc (asked c.in-Some.ensures.last (λ s. says_on (key_by s c.args.channel.now)) None _
    c.in-Some-says_on.ensures)

pub loop-said-preserved : goal.loop-said-preserved
loop-said-preserved g c =
    cc (asked c.in-Some.ensures.last (λ s. says_on (key_by s c.args.channel.now)) None _
    c.in_default-says_on.ensures)
