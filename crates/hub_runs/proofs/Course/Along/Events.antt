-- What an event does: it is answered what happened before it says, and the hub is as that says.
pub mod OneEvent
pub use OneEvent.*
pub use Rattle.hub_core.specs.declared.detach.Seen.TheVariants as seen
pub use Rattle.hub_runs.specs.declared.outcome.Reply.TheVariants as reply
pub use Rattle.hub_runs.specs.{Course.gone_with, Replies.{Answer, OfAttach, OfDetach, OfDrain}}
pub use Rattle.hub_runs.specs.{Replies.{OfLines, OfLoss, answer_of, answer_to}, Worlds.Happens}
pub use Rattle.hub_runs.specs.{Worlds.{name_of, number_given}, declared.outcome.Reply.Reply}
pub use Rattle.{net_view.specs.Arrival.Lost, std.proofs.Common.{suc, zero}}
pub use Rattle.std.specs.List.{cons_option, range_with_len}

abbrev pub sents : List OutletState → List (List (List Parts))
sents os = map (λ (o : OutletState). o.sent) os

-- items that were taken
pub came_items : (ds : List Deed) (xs : List Came)
    → reverse (came_back (with_items ds xs)) ≡ reverse (came_back ds) ++ xs
came_items ds [] = sym (append-nil (reverse (came_back ds)))
came_items ds (x ∷ xs) =
    let turned = reverse-append (x ∷ []) (came_back ds) in
    grind (arith, turned, append_assoc, came_items (Took x ∷ ds) xs)

-- no session comes or goes
abbrev pub Plain : Deed → Type 0
Plain (Joined id name caps size) = ⊥
Plain (Left id seen) = ⊥
Plain d = Unit {0}

abbrev pub IsPlain : Event → Type 0
IsPlain (on.Attach caps name size) = ⊥
IsPlain (on.Detach id) = ⊥
IsPlain (on.Leave id number) = ⊥
IsPlain e = Unit {0}

-- what is kept by all else is kept by an event
module _ (k : Kept) (P : List Deed → Type 0) (step : (d : Deed) (ds : List Deed) → Plain d → P ds → P (d ∷ ds))
  where
    pub by_items : (ds : List Deed) (xs : List Came) → P ds → P (with_items ds xs)
    by_items ds [] p = p
    by_items ds (x ∷ xs) p = by_items (Took x ∷ ds) xs (step (Took x) ds tt p)

    pub by_event : (ds : List Deed) (rest : List ℕ) (e : Event) (a : Answer) → IsPlain e → P ds
        → P (with_event k ds rest e a)
    by_event ds rest (on.Up bytes moment) a plain p =
        by_items ds (lines_at (rest ++ bytes.items) moment.0) p
    by_event ds rest (on.Attach caps name size) a plain p = absurd plain
    by_event ds rest (on.Detach id) a plain p = absurd plain
    by_event ds rest (on.Leave id number) a plain p = absurd plain
    by_event ds rest e a plain p = grind (arith, step)

pub came_event : (k : Kept) (ds : List Deed) (rest : List ℕ) (e : Event) (a : Answer)
    → reverse (came_back (with_event k ds rest e a)) ≡ reverse (came_back ds) ++ items_of e rest
came_event k ds rest (on.Up bytes moment) a = came_items ds _
came_event k ds rest (on.Lost moment) a = reverse-append ((Lost, moment.0) ∷ []) (came_back ds)
came_event k ds rest e a = grind (arith, append-nil)

range_more : (a n : ℕ) → range_with_len a (n + 1) ≡ range_with_len a n ++ (a + n) ∷ []
range_more a zero = grind arith
range_more a (suc n) = grind (arith, range_more (a + 1) n)

module _ (l : Limits) where
  abbrev pub gones : List Deed → List (List (List Parts))
  gones ds = gone_with l.before ds

  -- numbers were given in order
  abbrev pub Numbers : List Deed → List ℕ → Type 0
  Numbers ds ns = ns ≡ range_with_len l.first_session (attached ds)

  -- who went, and how many came
  abbrev Same : List Deed → List Deed → Type 0
  Same ds new = (gones new ≡ gones ds) × (attached new ≡ attached ds)

  pub record Does (ds : List Deed) (w : WorldState) (e : Event) (r : Reply)
      (mid : WorldState) : Type 0 where
    pub followed : Followed l (with_event l.before.profile.keeping ds w.rest e (answer_of r)) mid.hub
    pub answer : answer_of r ≡ answer_to l ds w.rest e
    pub rest : mid.rest ≡ rest_behind w.rest e
    pub gone : sents w.gone ≡ gones ds
        → sents mid.gone ≡ gones (with_event l.before.profile.keeping ds w.rest e (answer_of r))
    pub numbers : (ns : List ℕ) → Numbers ds ns
        → Numbers (with_event l.before.profile.keeping ds w.rest e (answer_of r)) (ns ++ cons_option (number_given r) [])

  module _ (ds : List Deed) (w : WorldState) (e : Event) (r : Reply) (mid : WorldState) where
    abbrev Gives : Type 0
    Gives = number_given r ≡ None → Followed l (with_event l.before.profile.keeping ds w.rest e (answer_of r)) mid.hub
        → answer_of r ≡ answer_to l ds w.rest e → mid.rest ≡ rest_behind w.rest e
        → mid.gone ≡ w.gone → Does ds w e r mid

    does_same : Same ds (with_event l.before.profile.keeping ds w.rest e (answer_of r)) → Gives
    does_same same none followed answer rest gone = grind (arith, append-nil, same)

    does_plain : IsPlain e → Gives
    does_plain plain =
        does_same (by_event l.before.profile.keeping (Same ds) (λ d new plain same. grind arith) ds w.rest e (answer_of r)
        plain (refl, refl))

  -- the outlet of a session that went was sent its packets
  went : (ds : List Deed) (w : WorldState) (id : ℕ) (s : Seen) (o : OutletState) (mid : WorldState)
      → Followed l ds w.hub → (d : SessionGoes s w.hub id o o.closed mid.hub) → mid.gone ≡ w.gone ++ o ∷ []
      → sents w.gone ≡ gones ds → sents mid.gone ≡ gones (Left id s ∷ ds)
  went ds w id s o mid f d gone all =
      let here = session_at f id (around_gone d) in grind (arith, here, map-append, all, d, gone)

  pub event_done : (ds : List Deed) (w : WorldState) (e : Event) (r : Reply) (mid : WorldState)
      → Followed l ds w.hub → Happens e r w mid → Does ds w e r mid
  event_done ds w (on.Up bytes moment) (reply.Up pumped) mid f h =
      let all = took_all _ pumped.items mid.hub f h.1 in
      does_plain ds w _ _ mid tt refl all.0 (ap OfLines all.1) h.2 h.3
  event_done ds w (on.Lost moment) (reply.Lost pumped) mid f h =
      does_plain ds w _ _ mid tt refl (took f _ pumped mid.hub h.0)
      (ap OfLoss (pumped_is f _ pumped mid.hub h.0)) h.1 h.2
  event_done ds w (on.Attach caps name size) (reply.Attach (Ok id)) mid f h = record {
    followed = joined f caps _ size id mid.hub h.0;
    answer = ap OfAttach (joins f caps _ size id mid.hub h.0);
    rest = h.1;
    gone = λ all. ap sents h.2 ∙ all;
    numbers = λ ns all. let next = f.seated.next in
        grind (arith, nat_tests, next, h.0.number, range_more l.first_session);
  }
  event_done ds w (on.Attach caps name size) (reply.Attach (Err e)) mid f h =
      rw h.2 (does_same ds w _ _ w (refl, refl) refl f
      (ap OfAttach (refuses f (name_of name) size e h.0 h.1)) refl refl)
  event_done ds w (on.Detach id) (reply.Detach (Ok u)) mid f h = record {
    followed = left f id seen.All h.0 _ mid.hub h.1;
    answer = ap OfDetach (sym (has f id (around_gone h.1)));
    rest = h.2;
    gone = λ all. went ds w id seen.All h.0 mid f h.1 h.3 all;
    numbers = λ ns all. append-nil ns ∙ all;
  }
  event_done ds w (on.Detach id) (reply.Detach (Err e)) mid f h =
      let gone = lacks f id h.0 in
      rw h.1 (does_same ds w _ _ w (refl, refl) refl f (rw gone refl) refl refl)
  event_done ds w (on.Leave id number) (reply.Detach (Ok u)) mid f h = record {
    followed = left f id (seen.UpTo number) h.0 _ mid.hub h.1;
    answer = ap OfDetach (sym (has f id (around_gone h.1)));
    rest = h.2;
    gone = λ all. went ds w id (seen.UpTo number) h.0 mid f h.1 h.3 all;
    numbers = λ ns all. append-nil ns ∙ all;
  }
  event_done ds w (on.Leave id number) (reply.Detach (Err e)) mid f h =
      let gone = lacks f id h.0 in
      rw h.1 (does_same ds w _ _ w (refl, refl) refl f (rw gone refl) refl refl)
  event_done ds w (on.Said id line moment) (reply.Said r) mid f h =
      let so = says f w.rest id line moment r mid.hub h.0 h.1 in
      does_plain ds w _ _ mid tt refl so.0 (ap OfLine so.1) h.2 h.3
  event_done ds w (on.Drained (Some id) most) (reply.Drained taken) mid f h =
      does_plain ds w _ _ mid tt refl (drained_at f id most taken mid.hub h.0)
      (ap OfDrain (drawn f id most taken mid.hub h.0)) h.1 h.2
  event_done ds w (on.Drained None most) (reply.Drained taken) mid f h =
      does_plain ds w _ _ mid tt refl (drained_up f most taken mid.hub h.0)
      (ap OfDrain (drained f most taken mid.hub h.0)) h.1 h.2
  event_done ds w _ _ mid f h = absurd h
