use Rattle.irc_line.proofs.scan.count_params.Given as goal
use Rattle.{irc_line.specs.Reading.params_at, std.proofs.Common.{false, length, ◌+◌, ◌≡◌, ◌≤◌}}

abbrev pub invariant-loop-after : goal.invariant-loop-after
invariant-loop-after l = record {
  counted : l.count + length (params_at false l.rest) ≡ length (params_at false l.fn.text);
  short : l.count + length l.rest ≤ length l.fn.text;
}

abbrev pub decreases-loop-after : goal.decreases-loop-after
decreases-loop-after l = length l.rest
