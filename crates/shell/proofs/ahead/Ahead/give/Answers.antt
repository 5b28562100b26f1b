use Rattle.std.proofs.Common.{rules}
use Rattle.shell.proofs.Kept.{front_given}
use Rattle.shell.proofs.ahead.Ahead.give.Goals as goal

pub returns-clause-given : goal.returns-clause-given
returns-clause-given c =
    front_given c.args.self.now _ _ c.read.new.buf c.self.inside.bytes.items c.min.result
    c.in_ok-count.count c.self.inside.taken (search rules) (search rules)
    c.in_ok-count.ensures.bytes.0 (search rules)
