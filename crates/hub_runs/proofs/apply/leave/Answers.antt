use Rattle.hub_runs.proofs.apply.leave.Goals as goal
use Rattle.{hub_ends.specs.Memory.state_of, std.proofs.{Common.refl, lemmas.List.map-append}}

pub returns-in-Ok-clause-ok : goal.returns-in-Ok-clause-ok
returns-in-Ok-clause-ok g c rest = (
  state_of c.in-Ok.outlet,
  c.in-Ok.ensures.ok,
  refl,
  rw (c.push_reserved.ensures.items, c.reserve.ensures.items) (map-append _ _ _),
)
