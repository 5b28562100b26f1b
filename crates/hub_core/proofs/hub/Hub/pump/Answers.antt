use Rattle.hub_core.proofs.hub.Hub.pump.Goals as goal
use Rattle.hub_core.proofs.hub.Hub.pump.Given
use Rattle.hub_core.proofs.{LostChannels.{lost_are, settled_as, sorted_new}, Running.goes_on}
use Rattle.hub_core.proofs.{Running.holds_on, Unread.{none_kept, nothing_kept}, Words.{◌++◌, ◌∙◌}}
use Rattle.hub_core.proofs.Words.{◌∷◌, ◌≡◌, Came, Delivered, HubState, IsSome, None, Some, [], ap}
use Rattle.hub_core.proofs.Words.{given_but, heard, hub_of, joining, length-map, lost_channels, map}
use Rattle.hub_core.proofs.Words.{option_map, packet_for, refl, shown, state_of, subst, sym, true}
use Rattle.hub_core.proofs.Words.{List, view_of}
use Rattle.hub_core.specs.{LostChannels.{Joining, is_named, is_settled, still}, Pumping.Takes}
use Rattle.history.specs.Keeping.{kept_by}
use Rattle.std.proofs.Common.{Err, filter, not}
use Rattle.{hub_ends.specs.Came.came, net_view.proofs.StepLaw.view_unchanged}
use Rattle.{net_view.specs.StateLines.may_need_memory, std.proofs.lemmas.Bool.true_from_ne_false}

pub invariant_of-self-in-Err : goal.invariant_of-self-in-Err
invariant_of-self-in-Err g c = (
  holds_on _
      record { taken = c.in-Some.ensures.taken; ahead = c.in-Some.ensures.ahead }
      c.self.invariant.0 _ _ refl (ap (shown joining) c.prepare_arrival.ensures.all) refl
      c.prepare_arrival.ensures.states refl refl refl refl refl,
  c.drop_if_short.ensures.kept _ c.self.invariant.1,
)

pub invariant_of-self-in-Err-keep : goal.invariant_of-self-in-Err-keep
invariant_of-self-in-Err-keep g c = (
  holds_on _
      record { taken = c.in-Some.ensures.taken; ahead = c.in-Some.ensures.ahead }
      c.self.invariant.0 _ _ refl (ap (shown joining) c.prepare_arrival.ensures.all) refl
      c.prepare_arrival.ensures.states refl c.in-Err-keep.ensures.same refl refl refl,
  c.drop_if_short-in-Err-keep.ensures.kept _ c.self.invariant.1,
)

-- what was refused is held, and nothing else has changed
pub returns-in-Err : goal.returns-in-Err
returns-in-Err g c = record {
  step = rw (← c.self.view_is) record {
    item = came (c.in-Some.item, c.in-Some.moment);
    comes = record { taken = c.in-Some.ensures.taken; ahead = c.in-Some.ensures.ahead };
    held = refl;
    spent = (
      λ e. c.in-Err.ensures.spent.0 (ap Err e),
      λ s. let same = c.in-Err.ensures.spent.1 s in cc,
    );
    others = λ k. record (hub_of g.I.Inlet.taken g.I.Inlet.ahead g.O.Outlet.state c.self.inside) {
      taken = g.I.Inlet.taken c.next_item.new.inlet;
      ahead = g.I.Inlet.ahead c.next_item.new.inlet;
      held = Some (came (c.in-Some.item, c.in-Some.moment));
      sessions = c.prepare_arrival.ensures.states k;
    };
  };
}

pub returns-in-Err-keep : goal.returns-in-Err-keep
returns-in-Err-keep g c = record {
  step = rw (← c.self.view_is) record {
    item = came (c.in-Some.item, c.in-Some.moment);
    comes = record { taken = c.in-Some.ensures.taken; ahead = c.in-Some.ensures.ahead };
    held = refl;
    spent = (
      λ e. let no = c.in-Err-keep.ensures.err in absurd cc,
      λ s. let some = c.in-Ok.ensures.numbered (subst IsSome (sym c.in-Ok.ensures.made.0) s.0) in
          let none = subst IsSome s.1 some in absurd cc,
    );
    others = λ k. record (hub_of g.I.Inlet.taken g.I.Inlet.ahead g.O.Outlet.state c.self.inside) {
      taken = g.I.Inlet.taken c.next_item.new.inlet;
      ahead = g.I.Inlet.ahead c.next_item.new.inlet;
      held = Some (came (c.in-Some.item, c.in-Some.moment));
      sessions = c.prepare_arrival.ensures.states k;
      history = c.in-Err-keep.ensures.same k;
    };
  };
}

module _ (g : Given.Over) (c : goal.Joined-pong-3 g) where
  abbrev refused : Came
  refused = came (c.in-Some.item, c.in-Some.moment)

  need : may_need_memory refused.0 ≡ true
  need = true_from_ne_false _ (λ f. let no = c.in-Err-take.ensures.free f in absurd cc)

  kept : c.keep.new.history ≡ c.self.inside.history
  kept = nothing_kept (kept_by c.self.inside.profile.keeping) refused _ _ _ need c.in_default-keep.ensures.ok c.in-Ok.ensures.made.0

pub invariant_of-self-in-Err-take : goal.invariant_of-self-in-Err-take
invariant_of-self-in-Err-take g c = (
  holds_on _
      record { taken = c.in-Some.ensures.taken; ahead = c.in-Some.ensures.ahead }
      c.self.invariant.0 _ _ c.in-Err-take.ensures.kept
      (ap (shown joining) c.prepare_arrival.ensures.all) refl c.prepare_arrival.ensures.states refl
      (kept g c) refl refl refl,
  c.drop_if_short-in-Err-take.ensures.kept _ (rw c.in-Err-take.ensures.kept c.self.invariant.1),
)

pub returns-in-Err-take : goal.returns-in-Err-take
returns-in-Err-take g c = record {
  step = rw (← c.self.view_is) record {
    item = refused g c;
    comes = record { taken = c.in-Some.ensures.taken; ahead = c.in-Some.ensures.ahead };
    held = refl;
    spent = (
      λ e. absurd cc,
      λ s. let some = subst IsSome (none_kept (kept_by c.self.inside.profile.keeping) (refused g c) (need g c)) s.0 in absurd cc,
    );
    others = λ k. record (hub_of g.I.Inlet.taken g.I.Inlet.ahead g.O.Outlet.state c.self.inside) {
      taken = g.I.Inlet.taken c.next_item.new.inlet;
      ahead = g.I.Inlet.ahead c.next_item.new.inlet;
      held = Some (refused g c);
      sessions = c.prepare_arrival.ensures.states k;
      history = kept g c k;
    };
  };
}

pub renew-requires-clause-order : goal.renew-requires-clause-order
renew-requires-clause-order g c =
    sorted_new (g.V.NetworkView.view c.self.inside.view)
    (came (c.in-Some.item, c.in-Some.moment)).0 _ _ c.in-Ok.ensures.made.2

module _ (g : Given.Over) (c : goal.Joined-item g) where
  abbrev old : HubState
  old = hub_of g.I.Inlet.taken g.I.Inlet.ahead g.O.Outlet.state c.self.inside

  abbrev new : HubState
  new =
      hub_of g.I.Inlet.taken g.I.Inlet.ahead g.O.Outlet.state record c.self.inside {
        view = c.take.new.self;
        inlet = c.next_item.new.inlet;
        held = c.next_item.new.held;
        sessions = c.deliver-cut.new.sessions;
        upstream = c.put.new.outlet;
        online = c.online_after-self-inside.result;
        history = c.keep.new.history;
        images = c.saturating_add-self-inside.result;
        made = c.prepare_arrival.new.made;
        lost = c.renew.new.lost;
        recalled = c.drop_named.new.recalled;
        parts = c.drop_outdated.new.parts;
        wishes = c.hear.new.self;
      }

  abbrev item : Came
  item = came (c.in-Some.item, c.in-Some.moment)

  delivered : Delivered g.O.Outlet.alone (λ s. packet_for (view_of (heard old)) item s.caps)
      old.sessions (map (state_of g.O.Outlet.state) c.deliver-cut.new.sessions.items)
  delivered =
      rw (c.prepare_arrival.ensures.states, c.self.invariant.0.view_is) at
      (c.deliver-cut.ensures.all
      (given_but None (packet_for (g.V.NetworkView.view c.self.inside.view) item))
      c.in-Ok.ensures.coming)

  left : shown joining c.renew.new.lost.all ≡ lost_channels (heard old ++ item.0 ∷ [])
  left =
      let all : shown joining c.prepare_arrival.new.lost.all ≡ lost_channels (heard old) =
      ap (shown joining) c.prepare_arrival.ensures.all ∙ c.self.invariant.0.lost_is in
      lost_are (heard old) item.0 (shown joining c.renew.new.lost.all) (λ k.
      rw (← all, ← c.self.invariant.0.view_is) (c.renew.ensures k
      ∙ rw c.in-Ok.ensures.made.2 (settled_as (g.V.NetworkView.view c.self.inside.view) item.0 k
      (is_settled c.settled_by-settled.result k) _ (c.settled_by-settled.ensures.lost k))))

  abbrev was : List Joining
  was = map joining c.self.inside.recalled.items

  stay : map joining c.drop_named.new.recalled.items ≡ still (view_of (heard old)) item.0 was
  stay =
      let dropped : map joining c.drop_named.new.recalled.items
      ≡ filter (λ channel. not (is_named c.settled_by-settled.result channel.0)) was =
      c.drop_named.ensures in
      let left : filter (λ channel. not (is_named c.settled_by-settled.result channel.0)) was
      ≡ still (g.V.NetworkView.view c.self.inside.view) item.0 was =
      c.settled_by-settled.ensures.recalled in
      rw c.self.invariant.0.view_is at (dropped ∙ left)

  abbrev takes : Takes g.I.Inlet.alone g.O.Outlet.alone old c.deliver-cut.result new
  takes = record {
    item = item;
    comes = record { taken = c.in-Some.ensures.taken; ahead = c.in-Some.ensures.ahead };
    held = ap (option_map came) c.in-Some.ensures.held;
    sessions = delivered;
    left = rw (length-map, ← c.prepare_arrival.ensures.states, length-map)
        c.deliver-cut.ensures.count;
    upstream = rw c.in-Ok.ensures.made.1 at c.put.ensures;
    history = rw (← c.in-Ok.ensures.made.0) c.in_default-keep.ensures.ok;
    recalled = stay;
    wishes = c.hear.ensures (view_of (heard old))
        (rw c.self.invariant.0.view_is at c.news_of-news.ensures);
    number = λ some. c.in-Ok.ensures.numbered (rw c.in-Ok.ensures.made.0 some);
    images = rw (← c.in-Ok.ensures.sets, length-map) (rw c.images_of.ensures at
        c.saturating_add-self-inside.ensures);
    others = refl;
  }

pub invariant_of-self-2 : goal.invariant_of-self-2
invariant_of-self-2 g c =
    let seen = c.in_default-take.ensures.taken (heard (old g c)) c.self.invariant.0.view_is in (
      goes_on (takes g c) c.self.invariant.0 _ _ _ seen c.online_after-self-inside.ensures
          (left g c) (rw c.in-Ok.ensures.made.0 at c.in-Ok.ensures.written),
      c.drop_outdated.ensures _ _ c.self.invariant.1 (λ quiet. seen
          ∙ view_unchanged (heard (old g c)) (item g c).0 quiet ∙ sym c.self.invariant.0.view_is),
    )

pub returns : goal.returns
returns g c = record { step = rw (← c.self.view_is) (takes g c) }
