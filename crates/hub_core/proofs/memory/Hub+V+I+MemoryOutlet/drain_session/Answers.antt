use Rattle.hub_core.proofs.memory.Hub+V+I+MemoryOutlet.drain_session.Goals as goal
use Rattle.hub_core.proofs.memory.Hub+V+I+MemoryOutlet.drain_session.Given
use Rattle.hub_core.proofs.{Each.{each_at, each_with}, FoundRoom.drained, Running.fits_same}
use Rattle.hub_core.proofs.{Running.runs_with, Splits.{around_of, lacks, set_states, within}}
use Rattle.hub_core.proofs.Words.{Around, Arrival, EachFits, Fits, HubState, List, Inside, Session, SessionState}
use Rattle.hub_core.proofs.Words.{Some, ap, get_or, hub_of, inl, inr, map, position, refl}
use Rattle.hub_core.proofs.Words.{set, state_of, sym, with_outlet, with_sessions, ℕ, ◌++◌, ◌==◌}
use Rattle.{hub_core.proofs.Words.{◌∙◌, ◌∷◌, ◌≡◌}, hub_ends.specs.Memory.state_of as memory_state}
use Rattle.hub_ends.specs.declared.memory_outlet.MemoryOutlet.{MemoryOutlet}
use Rattle.hub_core.{proofs.{Seats.{remain_with, seated}, Words.Option}, specs.Bounds.AreSeated}
use Rattle.irc_line.proofs.Outcomes.{on_err}

abbrev state : Session MemoryOutlet → SessionState
state = state_of memory_state

module _ (g : Given.Over)
    (i : Inside g.row.V.Denot g.row.I.Denot MemoryOutlet g.row.V-Memory.Denot) where
  abbrev old : HubState
  old = hub_of g.I.Inlet.taken g.I.Inlet.ahead memory_state i

  module _ (id place : ℕ) (s : Session MemoryOutlet) (o : MemoryOutlet)
      (found : Some place ≡ position (λ (s : Session MemoryOutlet). s.id == id) i.sessions.items)
      (is : s ≡ get_or i.sessions.items place s) where
    abbrev around : Around old id
    around = around_of state id old i.sessions.items place s refl found is

    now : map state (set i.sessions.items place record s { outlet = o })
        ≡ around.front ++ with_outlet around.here (memory_state o) ∷ around.back
    now = set_states state i.sessions.items place _ (within state id i.sessions.items place found)

    fits : (items : List Arrival) → (memory_state o).sent ≡ (memory_state s.outlet).sent
        → o.closed ≡ s.outlet.closed → EachFits items old.sessions
        → EachFits items (map state (set i.sessions.items place record s { outlet = o }))
    fits items sent closed fit =
        let all = rw around.was at fit in
        let here = each_at (Fits items) around.front around.here around.back all in
        rw now (each_with (Fits items) around.front around.here _ around.back
        (fits_same items around.here (memory_state o) sent closed here) all)

    seats : {next : Option ℕ} → AreSeated next old.sessions
        → AreSeated next (map state (set i.sessions.items place record s { outlet = o }))
    seats all =
        rw now (seated (remain_with around.front around.here _ around.back refl)
        (rw around.was at all))

pub returns-in_default-clause-ok : goal.returns-in_default-clause-ok
returns-in_default-clause-ok g c =
    rw (← c.self.view_is)
    (inl (lacks state c.args.id c.self.inside.sessions.items c.in_default.ensures, refl, refl))

pub invariant_of-self : goal.invariant_of-self
invariant_of-self g c = (
  runs_with _ _ _ _ c.self.invariant.0 refl (fits g c.self.inside c.args.id _ _ _ c.in-Some.ensures
      c.index_mut.ensures.value _ c.drain.ensures.sent c.drain.ensures.closed
      c.self.invariant.0.fit)
      (seats g c.self.inside c.args.id _ _ _ c.in-Some.ensures c.index_mut.ensures.value
      c.self.invariant.0.seated),
  c.self.invariant.1,
)

pub invariant_of-self-2 : goal.invariant_of-self-2
invariant_of-self-2 g c = (
  runs_with _ _ _ _ c.self.invariant.0 refl (fits g c.self.inside c.args.id _ _ _ c.in-Some.ensures
      c.index_mut.ensures.value _ c.drain.ensures.sent c.drain.ensures.closed
      c.self.invariant.0.fit)
      (seats g c.self.inside c.args.id _ _ _ c.in-Some.ensures c.index_mut.ensures.value
      c.self.invariant.0.seated),
  c.self.invariant.1,
)

pub returns-in_err-taken-clause-err : goal.returns-in_err-taken-clause-err
returns-in_err-taken-clause-err g c =
    let i = c.self.inside in
    let a = around g i c.args.id _ _ c.drain.new.self c.in-Some.ensures c.index_mut.ensures.value in
    on_err c.from_residual.result (rw (← c.self.view_is) (ap (with_sessions (old g i))
    (now g i c.args.id _ _ c.drain.new.self c.in-Some.ensures c.index_mut.ensures.value
    ∙ (λ k. a.front ++ record a.here {
      outlet = record {
        sent = c.drain.ensures.sent k;
        closed = c.drain.ensures.closed k;
        capacity = c.drain.ensures.capacity k;
        free = c.in_err-taken.ensures.err.1 k;
      };
    } ∷ a.back) ∙ sym a.was)))

pub returns-clause-ok : goal.returns-clause-ok
returns-clause-ok g c =
    let ok = c.in_ok-taken.ensures.ok in
    let few = c.index_mut.result.now.outlet.few in
    rw (← c.self.view_is) (inr (record {
      around = around g c.self.inside c.args.id _ _ c.drain.new.self c.in-Some.ensures
          c.index_mut.ensures.value;
      given = memory_state c.drain.new.self;
      drained = drained _ _ c.args.most _ _ c.drain.ensures.sent c.drain.ensures.closed
          c.drain.ensures.capacity few refl ok.0 ok.2;
      is = ap (with_sessions (old g c.self.inside)) (now g c.self.inside c.args.id _ _
          c.drain.new.self c.in-Some.ensures c.index_mut.ensures.value);
    }))
