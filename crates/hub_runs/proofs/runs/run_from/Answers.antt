use Rattle.hub_runs.proofs.runs.run_from.Goals as goal
use Rattle.hub_runs.proofs.Course.{can_go_on}
use Rattle.hub_runs.specs.Ran.{before_of}
use Rattle.hub_runs.specs.Worlds.{beginning_from}
use Rattle.hub_core.specs.LostChannels.{joining}
use Rattle.hub_core.specs.States.{profile_of}
use Rattle.std.proofs.Common.{rules}
use Rattle.std.specs.Prelude.{map}

pub returns : goal.returns
returns g c = λ first next.
    let past = c.args.past in
    let channels = map joining past.channels.items in
    let session = c.args.first_session in
    let profile = profile_of c.args.profile in
    let start = beginning_from profile past.history first past.marks channels session c.args.upstream_capacity in
    c.go_on.ensures (before_of start.hub) profile past.history first past.marks channels session
    c.args.upstream_capacity (search rules)
    (can_go_on profile past.history first past.marks channels session c.args.upstream_capacity
    c.requires.kept.1.messages)
    (c.in_ok-world.ensures.ok first next).0
