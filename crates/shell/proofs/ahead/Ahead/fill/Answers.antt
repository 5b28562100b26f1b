use Rattle.std.proofs.Common.{rules, drop, take}
use Rattle.std.proofs.lemmas.List.{drop-append-le}
use Rattle.shell.proofs.Lines.{line_grown}
use Rattle.shell.proofs.ahead.Ahead.fill.Goals as goal

pub returns-clause-longer : goal.returns-clause-longer
returns-clause-longer g c =
    line_grown c.args.self.now (drop c.self.inside.taken c.extend_from_slice.new.self.items)
    (take c.in_ok-count.count c.read.new.buf, search (rules, drop-append-le))
