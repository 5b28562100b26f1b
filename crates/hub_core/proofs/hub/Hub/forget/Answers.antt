use Rattle.hub_core.proofs.hub.Hub.forget.Goals as goal
use Rattle.hub_core.proofs.{Running.runs_with, Words.refl}

pub invariant_of-self : goal.invariant_of-self
invariant_of-self g c = (
  runs_with _ _ _ _ c.self.invariant.0 refl c.self.invariant.0.fit c.self.invariant.0.seated,
  c.self.invariant.1,
)
