use Rattle.commands.proofs.attach.message_of.Goals as goal
use Rattle.{commands.proofs.AttachLemmas.time_tagged, std.proofs.Common.sym}

pub of_message_in-requires : goal.of_message_in-requires
of_message_in-requires c =
    time_tagged c.args.line.now c.in-Some.time.now (sym c.in-Some.ensures)

pub returns-in-None-clause-made : goal.returns-in-None-clause-made
returns-in-None-clause-made c =
    rw (← c.in-None.ensures) (rw c.time_text.ensures.text at c.of_message_in-in-None.ensures.made)
