use Rattle.hub_core.proofs.hub.Hub.spread.Goals as goal
use Rattle.hub_core.proofs.hub.Hub.spread.Given
use Rattle.hub_core.proofs.{Kept.{content_in, ring_is_said, said_content, said_in, said_is_message}, Running.{online_owned, said_on}}
use Rattle.hub_core.proofs.{Kept.{spread_chosen, spread_is_message}, Words.{EntryParts, Option, Text, option_map, ◌∙◌}}
use Rattle.hub_core.proofs.{WishesLemmas.asks_nothing}
use Rattle.hub_core.proofs.Seats.{remain_sent, seated}
use Rattle.hub_core.proofs.{Unread.{each_fits_unread, given_unread, said_unread}, Words.{◌∷◌, ◌≡◌}}
use Rattle.hub_core.proofs.Words.{Came, Delivered, Forwards, HubState, IsSome, Parts, Received}
use Rattle.hub_core.proofs.Words.{Session, SessionState, Some, View, [], entry_for, given_but}
use Rattle.hub_core.proofs.Words.{is_message, is_spread_by, true}
use Rattle.hub_core.proofs.Words.{heard, hub_of, length-map, map, packet_for, refl, state_of, sym}
use Rattle.{hub_core.proofs.Words.{time_text_of, view_now, with_entry}, irc_line.specs.Tags.time_of}
use Rattle.{hub_core.specs.Saying.{entry_said, own_line, own_message, sent_up}, std.proofs.Common.unwrap_or}

module _ (g : Given.Over) (c : goal.Joined-own-3 g) where
  abbrev state : Session g.row.O.Denot → SessionState
  state = state_of g.O.Outlet.state

  abbrev view : View
  view = g.V.NetworkView.view c.self.inside.view

  abbrev own : Parts
  own = own_line view c.args.line.now

  abbrev old : HubState
  old = hub_of g.I.Inlet.taken g.I.Inlet.ahead g.O.Outlet.state c.self.inside

  abbrev new : HubState
  new =
      hub_of g.I.Inlet.taken g.I.Inlet.ahead g.O.Outlet.state record c.self.inside {
        sessions = c.deliver.new.sessions;
        upstream = c.put_into_room.new.outlet;
        history = c.keep.new.history;
        images = c.saturating_add-self-inside.result;
        made = c.prepare_item.new.made;
      }

  -- what was made is the message as from us
  own_said : own_message old c.args.line.now c.args.moment.0 ≡ Some (Received own, c.args.moment.0)
  own_said = rw (rw (← c.self.view_is) at c.requires.message, c.self.invariant.0.view_is) refl

  delivered : (v : View) → v ≡ view → Delivered g.O.Outlet.alone
      (given_but (Some c.args.id) (packet_for v (Received own, c.args.moment.0))) old.sessions
      (map state c.deliver.new.sessions.items)
  delivered v e =
      rw (e, ← c.prepare_item.ensures.states) (c.deliver.ensures.all _
      (rw c.in_ok-from_us.ensures at c.in_ok-entry.ensures.coming))

  abbrev entry : Option EntryParts
  entry = entry_said old.profile.keeping (Some (Received own, c.args.moment.0))

  -- when it came
  abbrev time : Text
  time = unwrap_or (time_of own) (time_text_of c.args.moment.0)

  -- what is spread is a message
  spread : is_spread_by old.profile.keeping view c.args.line.now ≡ true
  spread = rw c.self.invariant.0.view_is (rw (← c.self.view_is) at c.requires.message)

  message : is_message c.args.line.now ≡ true
  message = spread_is_message old.profile.keeping view c.args.line.now spread

  made : c.in_ok-entry.entry ≡ entry
  made =
      (rw c.in_ok-from_us.ensures at c.in_ok-entry.ensures.made)
      ∙ said_in old.profile.keeping time own.source own
      (option_map (λ name. name.now) c.ring_said-ring.result) message c.ring_said-ring.ensures

  kept : new.history ≡ with_entry old.history entry
  kept = rw (← made) c.in_ok-keep.ensures.ok

  forwards : Forwards g.O.Outlet.alone old c.args.id c.args.line.now c.args.moment.0 new
  forwards = record {
    online = rw (← c.self.view_is) at c.requires.online;
    upstream = rw c.requires.packet at c.put_into_room.ensures;
    sessions = rw own_said (delivered (view_now old) (sym c.self.invariant.0.view_is));
    history = rw own_said kept;
    number = λ message. rw (← c.self.view_is) at c.requires.number;
    images = rw (own_said, ← c.in_ok-entry.ensures.sets, length-map) (rw c.images_of.ensures at
        c.saturating_add-self-inside.ensures);
    wishes = sym (asks_nothing (view_now old) c.args.line.now old.wishes message);
    others = refl;
  }

  -- we have a nick, so there is a source
  sourced : IsSome own.source
  sourced = rw c.self.invariant.0.view_is (online_owned (heard old) forwards.online)

pub invariant_of-self-2 : goal.invariant_of-self-2
invariant_of-self-2 g c = (
  let x : Came = (Received (own g c), c.args.moment.0) in
      let k = (old g c).profile.keeping in
      let same = content_in k (entry_for x) in
      said_on (old g c) (view g c) c.self.inside.online _ _ _ _ (entry g c)
      (sent_up c.args.line.now ∷ []) c.self.invariant.0 (kept g c) (forwards g c).upstream.sent
      (said_content (time g c) (own g c).source (own g c) (message g c) (sourced g c) ∙ sym same)
      (λ some. rw (← c.self.view_is) at c.requires.number) (said_is_message k (Some x))
      (rw (made g c) at c.in_ok-entry.ensures.written)
      (rw same (spread_chosen k (view g c) (time g c) (own g c).source (own g c) (spread g c)))
      (ring_is_said k (entry_for x))
      (each_fits_unread g.O.Outlet.alone (heard (old g c))
      (given_but (Some c.args.id) (packet_for (view g c) x)) (old g c).sessions _
      (given_unread (Some c.args.id) (packet_for (view g c) x)
      (λ caps. said_unread (view g c) (own g c) c.args.moment.0 caps (message g c)))
      c.self.invariant.0.fit (delivered g c (view g c) refl))
      (seated (remain_sent _ _ _ _ (delivered g c (view g c) refl)) c.self.invariant.0.seated),
  c.self.invariant.1,
)

pub returns-clause-ok : goal.returns-clause-ok
returns-clause-ok g c = (refl, rw (← c.self.view_is) (forwards g c))
