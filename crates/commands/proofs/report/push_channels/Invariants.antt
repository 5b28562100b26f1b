use Rattle.commands.proofs.report.push_channels.Given as goal
use Rattle.{commands.proofs.ReportLemmas.channels_before, std.proofs.Common.{◌++◌, ◌≡◌}}

abbrev pub invariant-loop-i : goal.invariant-loop-i
invariant-loop-i g l =
    l.report.items ≡ l.fn.report.items ++ channels_before (g.V.NetworkView.view l.view) l.i
