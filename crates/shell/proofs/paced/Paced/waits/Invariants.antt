use Rattle.std.proofs.Common.{◌≤◌}
use Rattle.std.specs.Io.KnownBytes.{Keeps}
use Rattle.shell.specs.Held.{line_length}
use Rattle.shell.specs.Readers.{paced_held, paced_remaining}
use Rattle.shell.proofs.paced.Paced.waits.Given as goal

abbrev pub invariant-loop : goal.invariant-loop
invariant-loop g l =
    Keeps (paced_remaining g.S.Read.remaining l.fn.self) (paced_remaining g.S.Read.remaining l.self)
    × (line_length (paced_held l.fn.self) ≤ line_length (paced_held l.self))
