use Rattle.hub_core.proofs.hub.Hub.ask.Goals as goal
use Rattle.hub_core.proofs.hub.Hub.ask.Given
use Rattle.hub_core.proofs.{FoundRoom.found_took, Kept.{sent_more, unsaid}, Running.runs_with}
use Rattle.hub_core.proofs.Words.{HubState, Inside, Took, [], hub_of, inl, inr, refl, sym, ◌∙◌, ◌∷◌}
use Rattle.hub_core.specs.Saying.{sent_up}

abbrev old : (g : Given.Over)
    → Inside g.row.V.Denot g.row.I.Denot g.row.O.Denot g.row.V-Memory.Denot → HubState
old g i = hub_of g.I.Inlet.taken g.I.Inlet.ahead g.O.Outlet.state i

pub returns-then-is_message : goal.returns-then-is_message
returns-then-is_message g c = rw (← c.self.view_is) (inl (sym c.if-is_message.ensures), refl)

pub returns-then-not-self : goal.returns-then-not-self
returns-then-not-self g c =
    rw (← c.self.view_is) (inr (inl (sym c.self.invariant.0.online_is ∙ c.if-not-self.true)), refl)

pub returns-in_default : goal.returns-in_default
returns-in_default g c =
    rw (← c.self.view_is) (
      sym c.self.invariant.0.online_is ∙ c.if-not-self.false,
      record { found = c.room.ensures.found; is = refl },
    )

took : (g : Given.Over) (c : goal.After-put_into_room g)
    → Took g.O.Outlet.alone (old g c.self.inside).upstream (sent_up c.args.line.now ∷ [])
    (g.O.Outlet.state c.put_into_room.new.outlet)
took g c =
    rw c.in-Ok.ensures at
    (found_took g.O.Outlet.alone _ _ _ _ c.room.ensures.found c.put_into_room.ensures)

pub invariant_of-self-2 : goal.invariant_of-self-2
invariant_of-self-2 g c = (
  runs_with _ _ _ _ c.self.invariant.0
      (rw (took g c).sent (sent_more (old g c.self.inside).upstream.sent
      (sent_up c.args.line.now ∷ []) (unsaid c.args.line.now (sym c.if-is_message.ensures))))
      c.self.invariant.0.fit c.self.invariant.0.seated,
  c.self.invariant.1,
)

pub returns : goal.returns
returns g c =
    rw (← c.self.view_is) (record {
      online = sym c.self.invariant.0.online_is ∙ c.if-not-self.false;
      quiet = sym c.if-is_message.ensures;
      given = g.O.Outlet.state c.put_into_room.new.outlet;
      sent = took g c;
      is = refl;
    })
