use Rattle.std.proofs.Common.{◌<◌, ◌≤◌, length}
use Rattle.std.specs.Io.KnownBytes.{Keeps, prepend_known}
use Rattle.shell.specs.Held.{line_length}
use Rattle.shell.proofs.ahead.Ahead.await_line.Given as goal

abbrev pub invariant-loop : goal.invariant-loop
invariant-loop g l = (0 < length l.self) × (line_length l.fn.self ≤ line_length l.self)
    × Keeps (prepend_known l.fn.self (g.I.Read.remaining l.fn.input))
    (prepend_known l.self (g.I.Read.remaining l.input))
