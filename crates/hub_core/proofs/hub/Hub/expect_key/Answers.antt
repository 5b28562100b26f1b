use Rattle.hub_core.proofs.hub.Hub.expect_key.Goals as goal
use Rattle.hub_core.proofs.Words.{refl}

pub returns-clause-ok : goal.returns-clause-ok
returns-clause-ok g c =
    rw (
      ← c.self.view_is,
      c.say.ensures,
      c.in_ok-keys.ensures,
      ← c.self.invariant.0.view_is,
      c.mapping-mapping.ensures,
      c.support.ensures,
    ) refl
