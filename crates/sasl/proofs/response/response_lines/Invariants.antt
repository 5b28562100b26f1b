use Rattle.sasl.proofs.response.response_lines.Given as goal
use Rattle.{sasl.specs.Response.pieces_to, std.proofs.Common.◌≡◌}

abbrev pub invariant-loop-place : goal.invariant-loop-place
invariant-loop-place l = l.lines.items ≡ pieces_to l.text l.place
