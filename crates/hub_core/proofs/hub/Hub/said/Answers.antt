use Rattle.hub_core.specs.declared.hub.HubError.TheVariants as fault
use Rattle.hub_core.proofs.hub.Hub.said.Goals as goal
use Rattle.hub_core.proofs.hub.Hub.said.Given
use Rattle.{client_caps.specs.Answers.asked, hub_core.proofs.Running.runs_with}
use Rattle.hub_core.proofs.{Seats.seated, Splits.{answered_by, around_of, fits_answered, item_at, lacks}}
use Rattle.hub_core.proofs.Splits.{remain_answered}
use Rattle.hub_core.proofs.Words.{Around, HubState, Inside, Session, SessionState, Some, ap, heard}
use Rattle.hub_core.proofs.Words.{hub_of, inl, inr, is_some, map, position, refl, rules, state_of}
use Rattle.hub_core.{proofs.Words.{with_sessions, ℕ, ◌==◌, ◌≡◌}, specs.Saying.{Responds, granted}}
use Rattle.std.specs.Prelude.{Err}

module _ (g : Given.Over) where
  abbrev state : Session g.row.O.Denot → SessionState
  state = state_of g.O.Outlet.state

  abbrev hub : Inside g.row.V.Denot g.row.I.Denot g.row.O.Denot g.row.V-Memory.Denot → HubState
  hub i = hub_of g.I.Inlet.taken g.I.Inlet.ahead g.O.Outlet.state i

  -- the session that was found
  abbrev found : (i : Inside g.row.V.Denot g.row.I.Denot g.row.O.Denot g.row.V-Memory.Denot)
      (id place : ℕ) → Some place ≡ position (λ s. s.id == id) i.sessions.items → Around (hub i) id
  found i id place e =
      let s = item_at state id i.sessions.items place e in
      around_of state id (hub i) i.sessions.items place s.0 refl e s.1

pub returns-in_default : goal.returns-in_default
returns-in_default g c =
    let none = lacks (state g) c.args.id c.self.inside.sessions.items c.in_default.ensures in
    rw (← c.self.view_is) (inl (none, refl, refl))

pub returns-in-Quits : goal.returns-in-Quits
returns-in-Quits g c =
    let here = found g c.self.inside c.args.id c.in-Some.place c.in-Some.ensures in
    rw (← c.self.view_is) (inr (here, rw (← c.in-Quits.ensures) (refl, refl)))

pub returns-in-Nothing : goal.returns-in-Nothing
returns-in-Nothing g c =
    let here = found g c.self.inside c.args.id c.in-Some.place c.in-Some.ensures in
    rw (← c.self.view_is) (inr (here, rw (← c.in-Nothing.ensures) (refl, refl)))

pub returns-in-Forwards : goal.returns-in-Forwards
returns-in-Forwards g c =
    let here = found g c.self.inside c.args.id c.in-Some.place c.in-Some.ensures in
    let sent = rw (← c.self.view_is) at c.forward.ensures in
    rw (← c.self.view_is) (inr (here, rw (← c.in-Forwards.ensures) sent))

module _ (g : Given.Over) (c : goal.In_ok-respond-in-Asks g) where
  abbrev around : Around (hub g c.self.inside) c.args.id
  around = found g c.self.inside c.args.id c.in-Some.place c.in-Some.ensures

  responds : Responds g.O.Outlet.alone (g.V.NetworkView.view c.self.inside.view) around.front
      around.here around.back c.args.line.now c.in_ok-respond-in-Asks.field-0
      (map (state g) c.respond.new.sessions.items)
  responds =
      let s = item_at (state g) c.args.id c.self.inside.sessions.items _ c.in-Some.ensures in
      rw (← s.1) at (c.in_ok-respond-in-Asks.ensures.ok s.0)

pub returns-in_ok-respond-in-Asks : goal.returns-in_ok-respond-in-Asks
returns-in_ok-respond-in-Asks g c =
    rw (← c.self.view_is) (inr (
      around g c,
      rw (← c.in-Asks.ensures) (answered_by g.O.Outlet.alone (hub g c.self.inside) c.args.id
          c.args.line.now c.in_ok-respond-in-Asks.field-0 (around g c) _ _
          c.self.invariant.0.view_is (responds g c)),
    ))

pub invariant_of-self-in-Asks : goal.invariant_of-self-in-Asks
invariant_of-self-in-Asks g c = (
  let a = around g c in
      runs_with _ _ _ _ c.self.invariant.0 refl
      (fits_answered g.O.Outlet.alone (heard (hub g c.self.inside)) _ a.front a.here a.back
      c.args.line.now c.in_ok-respond-in-Asks.field-0 _ c.self.invariant.0.view_is
      (c.answers_tell_nothing.ensures (g.V.NetworkView.view c.self.inside.view).own a.here.caps
      (is_some (granted (asked c.args.line.now) a.here.caps c.args.line.now)) c.args.line.now)
      (rw a.was at c.self.invariant.0.fit) (responds g c))
      (seated (remain_answered g.O.Outlet.alone (g.V.NetworkView.view c.self.inside.view) a.front
      a.here a.back c.args.line.now c.in_ok-respond-in-Asks.field-0 _ (responds g c))
      (rw a.was at c.self.invariant.0.seated)),
  c.self.invariant.1,
)

pub returns-in_err-respond-in-Asks : goal.returns-in_err-respond-in-Asks
returns-in_err-respond-in-Asks g c =
    let e : c.from_residual.result ≡ Err fault.OutOfMemory = search rules in
    let here = found g c.self.inside c.args.id c.in-Some.place c.in-Some.ensures in
    rw (← c.self.view_is) (inr (
      here,
      rw (← c.in-Asks.ensures, e)
          (ap (λ ss. with_sessions (hub g c.self.inside) (map (state g) ss.items))
          c.in_err-respond-in-Asks.ensures.err),
    ))
