use Rattle.net_view.proofs.state_line.told.Goals as goal
use Rattle.net_view.proofs.{Commands.{is_read, told-unread}, Words.arith}

pub returns-in-None : goal.returns-in-None
returns-in-None g c s = grind (arith, told-unread, is_read c.args.line.now, c.of.ensures.value)
