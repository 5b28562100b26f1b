use Rattle.irc_line.proofs.splitter.runs_over.Given as goal
use Rattle.irc_line.{proofs.Limit.is_over, specs.Lines.{is_too_long, line_limit, segments_of}}
use Rattle.std.proofs.Common.{length, ◌++◌, ◌-◌, ◌≡◌, ◌≤◌}

abbrev pub invariant-loop-room : goal.invariant-loop-room
invariant-loop-room l = record {
  reach : l.room ≤ line_limit;
  same : is_over (line_limit - l.room) (segments_of l.left) ≡ is_too_long (l.fn.rest ++ l.fn.piece);
}

abbrev pub decreases-loop-room : goal.decreases-loop-room
decreases-loop-room l = length l.left
