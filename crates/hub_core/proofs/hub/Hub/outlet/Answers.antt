use Rattle.hub_core.proofs.hub.Hub.outlet.Goals as goal
use Rattle.hub_core.proofs.{Splits.{around_of, lacks}, Words.{refl, state_of}}

pub returns-in_default : goal.returns-in_default
returns-in_default g c =
    rw (← c.self.view_is)
    (lacks (state_of g.O.Outlet.state) c.args.id c.self.inside.sessions.items c.in_default.ensures)

pub returns : goal.returns
returns g c =
    rw (← c.self.view_is) (
      around_of (state_of g.O.Outlet.state) c.args.id _ c.self.inside.sessions.items
          c.in-Some.place c.index.result.now refl c.in-Some.ensures c.index.ensures,
      refl,
    )
