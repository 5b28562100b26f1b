-- What is done to the ends of a hub that are in memory.
use Rattle.std.specs.Prelude.{◌≡◌, ◌⊎◌, ◌+◌, ◌-◌, ℕ, List, ◌∷◌, ◌++◌, None, min, cond, is_some}
use Rattle.hub_ends.specs.Came.{Came}
use Rattle.hub_ends.specs.Outlets.{OutletState}
use Rattle.hub_core.specs.States.{HubState}
use Rattle.hub_core.specs.Given.{with_outlet}
use Rattle.hub_core.specs.Attaching.{Lacks}
use Rattle.hub_core.specs.Saying.{Around, with_sessions}
use Rattle.hub_core.specs.Upkeep.{with_upstream}

-- the same hub with these items ahead
abbrev pub with_ahead : HubState → List Came → HubState
with_ahead h ahead = record h { ahead = ahead }

-- `taken` packets were taken out of an outlet, of those that wait there at most `most`. They stay
-- sent, and there is room for that many more, except in an outlet that is closed.
pub record Drains (o : OutletState) (most taken : ℕ) (o' : OutletState) : Type 0 where
  pub sent : o'.sent ≡ o.sent
  pub closed : o'.closed ≡ o.closed
  pub capacity : o'.capacity ≡ o.capacity
  pub count : o.closed ≡ None → taken ≡ min most (o.capacity - o.free)
  pub free : o'.free ≡ cond (is_some o.closed) 0 (o.free + taken)

-- out of the outlet to the network
pub record DrainsUpstream (old : HubState) (most taken : ℕ) (new : HubState) : Type 0 where
  pub given : OutletState
  pub drained : Drains old.upstream most taken given
  pub is : new ≡ with_upstream old given

-- out of the outlet of the session of a number
pub record DrainsSession (old : HubState) (id most taken : ℕ) (new : HubState) : Type 0 where
  pub around : Around old id
  pub given : OutletState
  pub drained : Drains around.here.outlet most taken given
  pub is : new ≡ with_sessions old (around.front ++ with_outlet around.here given ∷ around.back)

-- the same, but there may be no such session: then nothing is taken out
abbrev pub DrainsAt : HubState → ℕ → ℕ → ℕ → HubState → Type 0
DrainsAt old id most taken new =
    (Lacks id old.sessions × (taken ≡ 0) × (new ≡ old)) ⊎ DrainsSession old id most taken new
