use Rattle.hub_runs.specs.declared.event.Event.TheVariants as on
use Rattle.hub_runs.proofs.apply.lose.Goals as goal
use Rattle.hub_runs.proofs.Course.{Lost, [], refl, refuses_one, stops_among}
use Rattle.hub_runs.specs.Worlds.{world_of}

pub returns-in-Err-clause-err : goal.returns-in-Err-clause-err
returns-in-Err-clause-err g c gone =
    let w = world_of c.args.hub.now c.args.splitter.now.rest gone in
    let one = refuses_one (Lost, c.args.moment.0) c.in-Err.e w.hub _ c.in-Err.ensures.err in
    ([], rw c.from.ensures (stops_among (on.Lost c.args.moment) c.in-Err.e w [] _ refl one))
