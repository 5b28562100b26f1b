use Rattle.tape_view.proofs.Words.{None, false, key_by, says_rank}
use Rattle.tape_view.proofs.tape.Tape.has_rank.Goals as goal
use Rattle.tape_view.proofs.LastLine.{asked_of, asked_here, unsaid_of, silent_anew}

pub returns-in-Some-says_rank : goal.returns-in-Some-says_rank
returns-in-Some-says_rank g c =
    cc (asked_here c.in-Some.ensures.last (λ s. says_rank (key_by s c.args.channel.now) c.args.rank)
    false c.loop-said.name.now _ c.in-Some-says_rank.ensures)

pub returns-in-None : goal.returns-in-None
returns-in-None g c =
    cc (asked_of c.in-Some.ensures.last (λ s. says_rank (key_by s c.args.channel.now) c.args.rank)
    false c.loop-said.name.now None None c.in_default-says_rank.ensures c.in-None.ensures)

pub loop-said-preserved : goal.loop-said-preserved
loop-said-preserved g c =
    unsaid_of c.in-Some.ensures.last (λ s. says_rank (key_by s c.args.channel.now) c.args.rank)
    false c.loop-said.name.now _ c.in-Some-name_before.before (λ us t. silent_anew _ us t _ _)
    c.in_default-says_rank.ensures c.in-Some-name_before.ensures c.loop-said.invariant
