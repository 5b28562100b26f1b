use Rattle.std.proofs.Common.{rules}
use Rattle.journal.proofs.Again.{message_is_read, whole_rest}
use Rattle.journal.proofs.lines.read_message.Goals as goal

pub returns : goal.returns
returns c =
    message_is_read c.message_by.result c.args.tags.now _ c.args.line.now c.place_of.result
    (search rules) (whole_rest 5 c.args.tags.now) (search rules) c.message_by.ensures
