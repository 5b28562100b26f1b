use Rattle.tape_view.proofs.tape.Tape.mode.Goals as goal
use Rattle.tape_view.proofs.{LastLine.{asked, silent_anew, unsaid}, Words.{None, key_by, says_mode}}

pub returns-in-Some-says_mode : goal.returns-in-Some-says_mode
returns-in-Some-says_mode g c =
    cc (asked c.in-Some.ensures.last (λ s. says_mode (key_by s c.args.channel.now) c.args.letter)
    None _ c.in-Some-says_mode.ensures)

pub loop-said-preserved : goal.loop-said-preserved
loop-said-preserved g c =
    unsaid c.in-Some.ensures.last (λ s. says_mode (key_by s c.args.channel.now) c.args.letter) None
    _ (λ us t. silent_anew _ us t _ _) c.in_default-says_mode.ensures c.loop-said.invariant
