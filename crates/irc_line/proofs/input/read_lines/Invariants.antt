use Rattle.irc_line.proofs.input.read_lines.Given as goal
use Rattle.{irc_line.proofs.InputRead.IsReadSoFar, std.proofs.Common.{length, ◌≡◌}}

abbrev pub invariant-loop : goal.invariant-loop
invariant-loop g l = record {
  room : length l.buffer ≡ length l.fn.buffer;
  so_far : IsReadSoFar (λ lines. g.T.LineTaker.is_after l.fn.taker lines l.taker) l.fn.splitter
      l.splitter (g.R.Read.remaining l.fn.reader) (g.R.Read.remaining l.reader);
}
