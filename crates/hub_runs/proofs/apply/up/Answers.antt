use Rattle.hub_runs.specs.declared.event.Event.TheVariants as on
use Rattle.hub_runs.proofs.apply.up.Goals as goal
use Rattle.hub_runs.proofs.Course.{stops_among}
use Rattle.std.proofs.Common.{rules}
use Rattle.hub_runs.specs.Worlds.{world_of}
use Rattle.irc_line.proofs.Outcomes.{refused_by}

pub returns-in_err-take_lines-clause-err : goal.returns-in_err-take_lines-clause-err
returns-in_err-take_lines-clause-err g c gone =
    let w = world_of c.args.hub.now c.args.splitter.now.rest gone in
    let among = c.in_err-take_lines.ensures.err in
    refused_by c.from_residual-in_err-take_lines.result _ _
    c.from_residual-in_err-take_lines.ensures.1 (
      among.0,
      stops_among (on.Up c.args.bytes.now c.args.moment) _ w among.0 _ (search rules)
          (rw (c.in_ok-feed.ensures.lines, c.new-lines.ensures.items, c.deref.ensures.value) at among.1),
    )
