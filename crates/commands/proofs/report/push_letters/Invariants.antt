use Rattle.commands.proofs.report.push_letters.Given as goal
use Rattle.{commands.specs.Report.letters_of, net_view.specs.Walks.modes_at}
use Rattle.std.proofs.Common.{length, ◌++◌, ◌≡◌}

abbrev pub invariant-loop-letter : goal.invariant-loop-letter
invariant-loop-letter g l =
    l.fn.report.items ++ letters_of (modes_at (g.V.NetworkView.view l.view) l.i)
    ≡ l.report.items ++ letters_of l.modes

abbrev pub decreases-loop-letter : goal.decreases-loop-letter
decreases-loop-letter g l = length l.modes
