use Rattle.client_caps.proofs.images.part_lines.Given as goal
use Rattle.{client_caps.specs.Images.part_lines_of, std.proofs.Common.{take, ◌≡◌}}

abbrev pub invariant-loop-place : goal.invariant-loop-place
invariant-loop-place g l =
    l.lines.items ≡ take l.place (part_lines_of (g.V.NetworkView.view l.view))
