use Rattle.upstream.proofs.writing.write_whole.Given as goal
use Rattle.std.{proofs.Common.{length, take, ◌≤◌}, specs.Io.KnownBytes.Appends}

abbrev pub invariant-loop : goal.invariant-loop
invariant-loop g l =
    (l.done ≤ length l.bytes)
    × Appends (g.W.Write.contents l.fn.writer) (g.W.Write.contents l.writer) (take l.done l.bytes)
