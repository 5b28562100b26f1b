use Rattle.tape_view.proofs.Words.{None, false, key_by, says_member}
use Rattle.tape_view.proofs.tape.Tape.was_made_member.Goals as goal
use Rattle.tape_view.proofs.LastLine.{asked_of, asked_here, unsaid_of, silent_anew}

pub returns-in-Some-says_member : goal.returns-in-Some-says_member
returns-in-Some-says_member g c =
    cc (asked_here c.in-Some.ensures.last (λ s. says_member (key_by s c.args.channel.now)) false
    c.loop-said.name.now _ c.in-Some-says_member.ensures)

pub returns-in-None : goal.returns-in-None
returns-in-None g c =
    cc (asked_of c.in-Some.ensures.last (λ s. says_member (key_by s c.args.channel.now)) false
    c.loop-said.name.now None None c.in_default-says_member.ensures c.in-None.ensures)

pub loop-said-preserved : goal.loop-said-preserved
loop-said-preserved g c =
    unsaid_of c.in-Some.ensures.last (λ s. says_member (key_by s c.args.channel.now))
    false c.loop-said.name.now _ c.in-Some-name_before.before (λ us t. silent_anew _ us t _ _)
    c.in_default-says_member.ensures c.in-Some-name_before.ensures c.loop-said.invariant
