use Rattle.hub_core.proofs.hub.Hub.let_go.Goals as goal
use Rattle.hub_core.proofs.hub.Hub.let_go.Given
use Rattle.hub_core.{proofs.Each.{each_at, each_without}, specs.Attaching.{Goes, last_number, left_by, marked}}
use Rattle.hub_core.proofs.{Running.runs_with, Seats.{remain_without, seated}, Splits.{around_of, lacks}, Words.{◌∙◌, ◌≡◌, ap, map}}
use Rattle.hub_core.proofs.Words.{◌++◌, Around, Fits, HubState, hub_of, map-append, refl, state_of}

pub returns-in_default-clause-err : goal.returns-in_default-clause-err
returns-in_default-clause-err g c =
    let lacked = lacks (state_of g.O.Outlet.state) c.args.id _ c.in_default.ensures in
    (refl, rw (← c.self.view_is) lacked)

module _ (g : Given.Over) (c : goal.Joined-gone-2 g) where
  abbrev old : HubState
  old = hub_of g.I.Inlet.taken g.I.Inlet.ahead g.O.Outlet.state c.self.inside

  abbrev around : Around old c.args.id
  around =
      around_of (state_of g.O.Outlet.state) c.args.id old c.self.inside.sessions.items
      c.in-Some.place c.remove-gone.result refl c.in-Some.ensures c.remove-gone.ensures.value

  now : map (state_of g.O.Outlet.state) c.remove-gone.new.self.items ≡ around.front ++ around.back
  now = rw c.remove-gone.ensures.items (map-append (state_of g.O.Outlet.state) _ _)

  goes : Goes c.args.seen old c.args.id (g.O.Outlet.state c.close.new.self)
      (g.O.Outlet.told c.close.new.self) (hub_of g.I.Inlet.taken g.I.Inlet.ahead g.O.Outlet.state
      record c.self.inside { sessions = c.remove-gone.new.self; marks = c.set_mark.new.marks })
  goes = record {
    front = around.front;
    gone = around.here;
    back = around.back;
    was = around.was;
    first = around.first;
    number = around.number;
    sent = c.close.ensures.sent;
    closed = c.close.ensures.first (each_at (Fits _) around.front around.here around.back
        (rw around.was at c.self.invariant.0.fit)).opened;
    capacity = c.close.ensures.capacity;
    full = c.close.ensures.full;
    told_so = c.close.ensures.told;
    is = λ k. record old {
      sessions = now k;
      marks = (c.set_mark.ensures ∙ ap (λ n. marked around.here.name n old.marks)
          (c.left_by-mark.ensures
          ∙ ap (λ n. left_by c.args.seen n c.mark_at-before.result) c.last_number.ensures
          ∙ ap (left_by c.args.seen (last_number old.history)) c.mark_at-before.ensures)) k;
    };
  }

pub invariant_of-self : goal.invariant_of-self
invariant_of-self g c = (
  let a = around g c in
      runs_with _ _ _ _ c.self.invariant.0 refl
      (rw (now g c) (each_without (Fits _) a.front a.here a.back
      (rw a.was at c.self.invariant.0.fit)))
      (rw (now g c) (seated (remain_without a.front a.here a.back)
      (rw a.was at c.self.invariant.0.seated))),
  c.self.invariant.1,
)

pub returns-clause-ok : goal.returns-clause-ok
returns-clause-ok g c = rw (← c.self.view_is) (goes g c)
