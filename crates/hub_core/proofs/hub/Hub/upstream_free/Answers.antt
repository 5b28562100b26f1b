use Rattle.hub_core.proofs.hub.Hub.upstream_free.Goals as goal
use Rattle.hub_core.proofs.{Running.runs_with, Words.{ap, content_said, filter_map, refl, rules}}

pub invariant_of-self : goal.invariant_of-self
invariant_of-self g c = (
  runs_with _ _ _ _ c.self.invariant.0
      (ap (filter_map content_said) c.free.ensures.found.sent) c.self.invariant.0.fit
      c.self.invariant.0.seated,
  c.self.invariant.1,
)

pub returns-clause-hub : goal.returns-clause-hub
returns-clause-hub g c = rw (← c.self.view_is) (record { found = c.free.ensures.found; is = refl })

pub returns-clause-value : goal.returns-clause-value
returns-clause-value g c = search rules
