use Rattle.upstream.proofs.writing.send.Given as goal
use Rattle.{irc_line.specs.Writing.bytes_of, std.proofs.Common.{take, ◌≡◌}}

abbrev pub invariant-loop-line : goal.invariant-loop-line
invariant-loop-line g l = l.bytes.items ≡ bytes_of (take l.line-index l.lines)
