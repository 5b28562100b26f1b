use Rattle.hub_core.proofs.hub.Hub.attach.Goals as goal
use Rattle.hub_core.proofs.hub.Hub.attach.Given
use Rattle.{history.specs.Marks.mark_of, hub_core.proofs.FoundRoom.found_took}
use Rattle.hub_core.proofs.{Running.{attached_fits, is_ready, runs_with}, Words.{◌++◌, ◌∙◌, ◌∷◌}}
use Rattle.hub_core.{proofs.Seats.{seated_more, under_limit}, specs.Bounds.AreSeated}
use Rattle.hub_core.proofs.Words.{◌≡◌, EachFits, HubState, None, Option, Session, SessionState, heard}
use Rattle.hub_core.proofs.Words.{Some, Text, Took, [], hub_of, map, map-append, option_and_then}
use Rattle.hub_core.{proofs.Words.{option_map, refl, state_of, view_now}, specs.Attaching.Attaches}
use Rattle.{hub_core.specs.Attaching.{missed, refusal_of}, welcome.specs.Playing.burst_by}

module _ (g : Given.Over) (c : goal.After-push_reserved g) where
  abbrev state : Session g.row.O.Denot → SessionState
  state = state_of g.O.Outlet.state

  abbrev old : HubState
  old = hub_of g.I.Inlet.taken g.I.Inlet.ahead g.O.Outlet.state c.self.inside

  abbrev name : Option Text
  name = option_map (λ n. n.now) c.args.name

  parts : (old.next ≡ Some c.in-Ok.parts.0) × (refusal_of old name ≡ None)
      × (option_map (λ c. c.items) c.in-Ok.parts.1 ≡ name)
      × (c.in-Ok.parts.2
      ≡ burst_by old.profile.playing (view_now old) c.args.caps (missed old name))
  parts = rw (← (c.self.view_is ∙ c.parts_for.ensures.same)) at c.in-Ok.ensures.ok

  sent : Took g.O.Outlet.alone (g.O.Outlet.state c.args.outlet)
      (burst_by old.profile.playing (view_now old) c.args.caps (missed old name))
      (g.O.Outlet.state c.put_into_room.new.outlet)
  sent =
      rw parts.3 at
      (found_took g.O.Outlet.alone _ _ _ _ c.make_room.ensures.found c.put_into_room.ensures)

  -- the sessions, with the new one
  now : map state c.push_reserved.new.self.items
      ≡ map state c.self.inside.sessions.items ++ record {
        id = c.in-Ok.parts.0;
        name = name;
        caps = c.args.caps;
        outlet = g.O.Outlet.state c.put_into_room.new.outlet;
      } ∷ []
  now =
      rw (c.push_reserved.ensures.items, c.make_room.ensures.sessions, ← parts.2)
      (map-append state c.self.inside.sessions.items _)

  attaches : Attaches g.O.Outlet.alone old c.args.caps name (g.O.Outlet.state c.args.outlet)
      c.in-Ok.parts.0
      (hub_of g.I.Inlet.taken g.I.Inlet.ahead g.O.Outlet.state record c.self.inside {
        sessions = c.push_reserved.new.self;
        next = c.number_after-self-inside.result;
        marks = c.make_room.new.marks;
      })
  attaches = record {
    allowed = parts.1;
    number = parts.0;
    given = g.O.Outlet.state c.put_into_room.new.outlet;
    sent = sent;
    is = λ k. record old {
      sessions = now k;
      next = c.number_after-self-inside.ensures k;
      marks = c.in-Ok-make_room.ensures.ok.1 k;
    };
  }

  -- the burst is read as the view
  fit : EachFits (heard old) (map state c.push_reserved.new.self.items)
  fit =
      rw now (attached_fits g.O.Outlet.alone old _ c.self.inside.online c.args.caps name
      (option_and_then (λ n. mark_of n c.self.inside.marks) name) c.in-Ok.parts.0
      (g.O.Outlet.state c.args.outlet) (g.O.Outlet.state c.put_into_room.new.outlet)
      c.self.invariant.0 (rw c.self.invariant.0.view_is (is_ready old name parts.1)) c.requires.0
      c.requires.1 (rw (← c.self.invariant.0.view_is) at sent))

  -- there was room for one more
  seats : AreSeated c.number_after-self-inside.result (map state c.push_reserved.new.self.items)
  seats =
      rw (now, c.number_after-self-inside.ensures) (seated_more _ refl (under_limit old name parts.1)
      (rw parts.0 at c.self.invariant.0.seated))

pub invariant_of-self-2 : goal.invariant_of-self-2
invariant_of-self-2 g c =
    (runs_with _ _ _ _ c.self.invariant.0 refl (fit g c) (seats g c), c.self.invariant.1)

pub returns-clause-ok : goal.returns-clause-ok
returns-clause-ok g c = rw (← (c.self.view_is ∙ c.parts_for.ensures.same)) (attaches g c)
