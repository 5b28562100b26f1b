use Rattle.hub_runs.proofs.runs.run_by.Goals as goal
use Rattle.hub_runs.proofs.Course.{can_begin}
use Rattle.history.specs.Messages.{no_messages}
use Rattle.hub_runs.specs.Ran.{none_before}
use Rattle.hub_core.specs.States.{profile_of}
use Rattle.std.proofs.Common.{rules}
use Rattle.std.specs.FinMap.{empty}
use Rattle.std.specs.Prelude.{[]}

pub returns-clause-ran : goal.returns-clause-ran
returns-clause-ran g c =
    let s = c.args.setup in
    let p = profile_of c.args.profile in
    c.go_on.ensures (none_before p s.history s.first_number) p (no_messages s.history s.first_number)
    s.first_number empty [] s.first_session c.args.upstream_capacity (search rules)
    (can_begin p s.history s.first_number s.first_session c.args.upstream_capacity (search rules))
    c.in_ok-world.ensures.ok.0
