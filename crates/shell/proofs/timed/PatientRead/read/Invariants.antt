use Rattle.std.specs.Io.KnownBytes.{Keeps}
use Rattle.shell.proofs.timed.PatientRead.read.Given as goal

abbrev pub invariant-loop : goal.invariant-loop
invariant-loop g l = Keeps (g.I.Read.remaining l.fn.self.input) (g.I.Read.remaining l.self.input)
