use Rattle.commands.proofs.report.push_params.Given as goal
use Rattle.{commands.specs.Report.params_of, net_view.specs.Walks.modes_at}
use Rattle.std.proofs.Common.{length, ◌++◌, ◌≡◌}

abbrev pub invariant-loop-param : goal.invariant-loop-param
invariant-loop-param g l =
    l.fn.report.items ++ params_of (modes_at (g.V.NetworkView.view l.view) l.i)
    ≡ l.report.items ++ params_of l.modes

abbrev pub decreases-loop-param : goal.decreases-loop-param
decreases-loop-param g l = length l.modes
