-- What one event does: it is answered what happened before it says.
pub mod Following
pub use Following.*
pub use Rattle.hub_core.specs.declared.attach.AttachError.TheVariants as refused
pub use Rattle.hub_core.specs.declared.said.Said.TheVariants as said
pub use Rattle.client_caps.specs.declared.moment.Moment.{Moment}
pub use Rattle.hub_core.specs.{Attaching.{Refuses, refusal_of}, Online.is_online, Saying.Says}
pub use Rattle.hub_core.specs.{Saying.SaysBy, declared.attach.AttachError.AttachError}
pub use Rattle.hub_core.specs.declared.said.{Meant.Meant, Said.Said}
pub use Rattle.hub_runs.specs.{Course.with_items, Presence.waits, Replies.{OfLine, attach_then}}
pub use Rattle.hub_runs.specs.Replies.{forward_by, forward_then, number_or, pumped_by, pumped_then}
pub use Rattle.hub_runs.specs.Replies.{refusal_then, said_by, said_then, with_event}
pub use Rattle.std.proofs.Common.{Err, Ok, Result, if◌then◌else◌, is_none, min, nat_lt}
pub use Rattle.std.proofs.lemmas.List.{length-map}

count_is : {l : Limits} {ds : List Deed} {h : HubState} → Followed l ds h
    → length h.sessions ≡ length (there ds)
count_is f = grind (arith, length-map, f.seated.who)

module _ {l : Limits} {ds : List Deed} {h : HubState} (f : Followed l ds h) where
  pub has : (id : ℕ) → Around h id → is_there id ds ≡ true
  has id a = grind (arith, session_at f id a)

  pub pumped_is : (x : Came) (p : Pumped) (new : HubState) → TakesIn h x p new → p ≡ pumped_by ds x
  pumped_is x p new t = grind (arith, count_is f, count_is (took f x p new t))

  refusal_is : (name : Option Text) → refusal_then l ds name ≡ refusal_of h name
  refusal_is name =
      let known = f.seated.known in
      grind (arith, known.each, known.count, now_seen f, count_is f, f.seated.next)

  attach_is : (name : Option Text) (capacity : ℕ) → attach_then l ds name capacity
      ≡ number_or (refusal_of h name) (if capacity == 0 then None else h.next)
  attach_is name capacity = grind (arith, refusal_is name, f.seated.next)

  pub joins : (caps : _) (name : Option Text) (capacity id : ℕ) (new : HubState)
      → Attaches true h caps name (new_outlet capacity) id new
      → Ok id ≡ attach_then l ds name capacity
  joins caps name capacity id new a =
      grind (arith, nat_tests, attach_is name capacity, a.allowed, a.sent, a.number)

  pub refuses : (name : Option Text) (capacity : ℕ) (e : AttachError)
      → Refuses h name (new_outlet capacity) e → (e ≡ refused.OutOfMemory → ⊥)
      → Err e ≡ attach_then l ds name capacity
  refuses name capacity e r some = grind (arith, attach_is name capacity, r, some)

  pub lacks : (id : ℕ) → Lacks id h.sessions → outlet_then id ds ≡ None
  lacks id k = grind (arith, absent, none_of, f.seated.who)

  forwards : (line : Parts) → forward_then l ds line ≡ forward_by (is_online (heard h))
      (is_spread h line && is_none h.history.next) (nat_lt 0 h.upstream.free)
  forwards line =
      rw (spread_is f line) (grind (arith, nat_tests, heard_then f, f.history, f.ups.room))

  -- a line of the session of a number was answered so, by what it means
  module _ (rest : List ℕ) (id : ℕ) (line : Parts) (moment : Moment) where
    abbrev After : Result Said HubError → HubState → Type 0
    After r new =
        Followed l (with_event l.before.profile.keeping ds rest (on.Said id line moment) (OfLine r)) new

    says_by : (m : Meant) (r : Result Said HubError) (new : HubState) → meaning line ≡ m
        → SaysBy m true h id line moment.0 r new → (r ≡ Err fault.OutOfMemory → ⊥)
        → After r new × (r ≡ said_by l m ds id line)
    says_by means.Quits r new e s some = grind (arith, f)
    says_by means.Nothing r new e s some = grind (arith, unasked f id line e)
    says_by _ (Err fault.OutOfMemory) new e s some = absurd (some refl)
    says_by means.Asks (Ok said.Answered) new e s some =
        let here = answered f id line new e s in
        let now = asked f id line s.around (Some _) (refl, here) in
        grind (arith, now, here, s.is, s.around.number)
    says_by means.Asks (Ok said.Cut) new e s some =
        let gone = cut f id line new e s in
        grind (arith, asked f id line s.around None gone, gone, s.is, s.around.number)
    says_by means.Forwards (Ok said.Offline) new e s some = (rw s.1 f, simp (forwards line, s.0))
    says_by means.Forwards (Err fault.Spent) new e s some =
        (rw s.3 f, grind (arith, forwards line, s.0, s.1, s.2))
    says_by means.Forwards (Ok said.Busy) new e s some =
        let kept : (is_spread h line && is_none h.history.next) ≡ false = grind (arith, s.1) in
        let room : nat_lt 0 h.upstream.free ≡ false = grind (arith, nat_tests, s.2) in
        (rw s.3 f, rw (forwards line, s.0, kept, room) refl)
    says_by means.Forwards (Ok said.Forwarded) new e s some =
        let kept : (is_spread h line && is_none h.history.next) ≡ false = grind (arith, s.number) in
        let room : nat_lt 0 h.upstream.free ≡ true = grind (arith, nat_tests, s.upstream.room) in
        (said_so f id line moment.0 new s, rw (forwards line, s.online, kept, room) refl)
    says_by _ _ new e s some = absurd s

    pub says : (r : Result Said HubError) (new : HubState) → Says true h id line moment.0 r new
        → (r ≡ Err fault.OutOfMemory → ⊥) → After r new × (r ≡ said_then l ds id line)
    says r new s some = grind (arith, s, lacks id, says_by (meaning line) r new, some, has id)

  pub drawn : (id most taken : ℕ) (new : HubState) → DrainsAt h id most taken new
      → taken ≡ min most (waits id ds)
  drawn id most taken new d = grind (arith, lacks id, session_at f id)

  pub drained : (most taken : ℕ) (new : HubState) → DrainsUpstream h most taken new
      → taken ≡ min most (waiting l.upstream ds)
  drained most taken new d = grind (arith, d.drained.count, f.ups.unclosed, f.ups.room, f.ups.size)

-- items were taken, one after the other
pub took_all : {l : Limits} {ds : List Deed} {h : HubState} (xs : List Came) (ps : List Pumped)
    (new : HubState) → Followed l ds h → TakesAll h xs ps new
    → Followed l (with_items ds xs) new × (ps ≡ pumped_then ds xs)
took_all [] [] new f t = (rw t f, refl)
took_all (x ∷ xs) (p ∷ ps) new f t =
    let first = pumped_is f x p t.0 t.1 in
    let rest = took_all xs ps new (took f x p t.0 t.1) t.2 in
    (rest.0, cc)
took_all _ _ new f t = absurd t
