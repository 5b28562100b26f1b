use Rattle.commands.proofs.report.push_channels.Goals as goal
use Rattle.{commands.proofs.ReportLemmas.channel_pushed, std.proofs.Common.◌∙◌}

pub loop-i-preserved : goal.loop-i-preserved
loop-i-preserved g c =
    let v = g.V.NetworkView.view c.args.view.now in
    c.in_ok-push_channel.ensures
    ∙ channel_pushed v c.loop-i.i c.args.report.now.items c.loop-i.report.items
    c.loop-i.invariant
