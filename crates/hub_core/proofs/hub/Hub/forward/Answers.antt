use Rattle.hub_core.proofs.hub.Hub.forward.Goals as goal
use Rattle.hub_core.proofs.hub.Hub.forward.Given
use Rattle.hub_core.proofs.{FoundRoom.{found_took, nobody, sent_from}, Kept.unspread_chosen}
use Rattle.hub_core.proofs.{Running.{passed_on, runs_wishing}, Words.{Forwards, HubState, Inside, IsSome, None, []}}
use Rattle.hub_core.proofs.Words.{false, hub_of, is_spread, is_spread_by, refl, rules, sym, true, ◌∙◌, ◌∷◌, ◌≡◌}
use Rattle.hub_core.specs.{Saying.{own_message, sent_up}, Upkeep.with_upstream, Wishes.wishes_of}

abbrev old : (g : Given.Over)
    → Inside g.row.V.Denot g.row.I.Denot g.row.O.Denot g.row.V-Memory.Denot → HubState
old g i = hub_of g.I.Inlet.taken g.I.Inlet.ahead g.O.Outlet.state i

pub returns-then-not-self : goal.returns-then-not-self
returns-then-not-self g c =
    rw (← c.self.view_is) (sym c.self.invariant.0.online_is ∙ c.if-not-self.true, refl)

pub returns-in-Err : goal.returns-in-Err
returns-in-Err g c =
    let number : is_spread (old g c.self.inside) c.args.line.now ≡ true → IsSome (old g c.self.inside).history.next =
    search rules in
    rw (← c.self.view_is) (
      sym c.self.invariant.0.online_is ∙ c.if-not-self.false,
      number,
      c.if-not-room.ensures.value.0 refl,
      record { found = c.room.ensures.found; is = refl },
    )

pub returns-then-is_for_all-2 : goal.returns-then-is_for_all-2
returns-then-is_for_all-2 g c =
    rw (← c.self.view_is)
    (sent_from g.O.Outlet.alone (old g c.self.inside) _ c.spread.new.self c.args.id c.args.line.now
    c.args.moment.0 c.spread.result (sym c.self.invariant.0.online_is ∙ c.if-not-self.false)
    (search rules) (c.if-not-room.ensures.value.0 refl)
    (record { found = c.room.ensures.found; is = refl }) c.spread.ensures.ok c.spread.ensures.err)

pub returns-in-Err-wish_of : goal.returns-in-Err-wish_of
returns-in-Err-wish_of g c =
    let spread : is_spread (old g c.self.inside) c.args.line.now ≡ false =
    rw c.self.invariant.0.view_is at (sym c.if-is_for_all-2.ensures) in
    rw (← c.self.view_is) (
      sym c.self.invariant.0.online_is ∙ c.if-not-self.false,
      λ message. absurd cc,
      c.if-not-room.ensures.value.0 refl,
      record { found = c.room.ensures.found; is = refl },
    )

forwards : (g : Given.Over) (c : goal.After-say g) → Forwards g.O.Outlet.alone
    (old g c.self.inside) c.args.id c.args.line.now c.args.moment.0
    (record (with_upstream (old g c.self.inside) (g.O.Outlet.state c.put_into_room.new.outlet)) {
      wishes = wishes_of c.say.new.self;
    })
forwards g c =
    let spread : is_spread (old g c.self.inside) c.args.line.now ≡ false =
    rw c.self.invariant.0.view_is at (sym c.if-is_for_all-2.ensures) in
    let none : own_message (old g c.self.inside) c.args.line.now c.args.moment.0 ≡ None =
    rw spread refl in
    record {
      online = sym c.self.invariant.0.online_is ∙ c.if-not-self.false;
      upstream = rw c.in-Ok.ensures at
          (found_took g.O.Outlet.alone _ _ _ _ c.room.ensures.found c.put_into_room.ensures);
      sessions = rw none
          (nobody g.O.Outlet.alone (old g c.self.inside) c.args.id (old g c.self.inside).sessions);
      history = rw none refl;
      number = λ message. absurd cc;
      images = rw none refl;
      wishes = c.say.ensures ∙ rw c.self.invariant.0.view_is at c.in-Ok-wish_of.ensures;
      others = refl;
    }

pub returns : goal.returns
returns g c = rw (← c.self.view_is) (forwards g c)

pub invariant_of-self-2 : goal.invariant_of-self-2
invariant_of-self-2 g c = (
  runs_wishing _ (passed_on _ _ _ _ (sent_up c.args.line.now ∷ []) c.self.invariant.0
      (forwards g c).upstream.sent
      (unspread_chosen (old g c.self.inside).profile.keeping
      (g.V.NetworkView.view c.self.inside.view) c.args.line.now
      (sym c.if-is_for_all-2.ensures))),
  c.self.invariant.1,
)
