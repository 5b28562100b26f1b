use Rattle.hub_core.proofs.hub.Hub.nearly_full.Goals as goal
use Rattle.hub_core.proofs.{Running.runs_with, Seats.seated_freed, Walk.fits_freed, Words.refl}

pub invariant_of-self : goal.invariant_of-self
invariant_of-self g c = (
  runs_with _ _ _ _ c.self.invariant.0 refl
      (fits_freed _ _ _ _ c.all_nearly_full.ensures.sessions c.self.invariant.0.fit)
      (seated_freed _ _ _ _ c.all_nearly_full.ensures.sessions c.self.invariant.0.seated),
  c.self.invariant.1,
)
