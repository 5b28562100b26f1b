-- Who is there, with what each was sent and what waits for it, once one thing more has happened.
pub mod Marked
unfoldable pub use Marked.*
pub use Rattle.hub_core.specs.declared.said.Meant.TheVariants as means
pub use Rattle.history.{proofs.LastMessages.none, specs.Messages.number_after}
pub use Rattle.hub_core.proofs.{Each.each_append, Kept.all_map, Running.sent_is}
pub use Rattle.hub_core.specs.{Attaching.Lacks, Given.{Delivered, Full, Sends, with_caps}}
pub use Rattle.{hub_core.specs.Saying.{Around, meaning}, hub_ends.specs.Outlets.new_outlet}
pub use Rattle.hub_runs.specs.Course.{Asked, Drew, IsSent, Left, Passed, Spoke, heard_back, held_since}
pub use Rattle.hub_runs.specs.Presence.{attached, is_there, next_then, numbers_in, outlet_then}
pub use Rattle.hub_runs.specs.{Presence.{put_in, there}, Replies.Limits}
pub use Rattle.{net_view.specs.Table.same_arms, std.proofs.Common.{◌<◌, ◌⊎◌, filter}}
pub use Rattle.std.proofs.{Common.{option_and_then, reverse}, lemmas.Bool.eqb-true}
pub use Rattle.std.{proofs.lemmas.Map.Views.any-filter_same, specs.List.list_any}
pub use Rattle.welcome.proofs.EachOf.{each_back, each_front, each_kept}

-- they rise, each below a bound
abbrev pub Rise : ℕ → List ℕ → Type 0
Rise b [] = Unit {0}
Rise b (n ∷ ns) = (n < b) × AllByRecursion (λ m. n < m) ns × Rise b ns

rise_filter : (b : ℕ) (p : ℕ → Bool) (ns : List ℕ) → Rise b ns → Rise b (filter p ns)
rise_filter b p [] rise = tt
rise_filter b p (n ∷ ns) rise = grind (arith, each_kept (λ m. n < m) p ns, rise_filter b p ns)

rise_more : (b : ℕ) (ns : List ℕ) → Rise b ns → Rise (b + 1) (ns ++ b ∷ [])
rise_more b [] rise = (omega arith, tt, tt)
rise_more b (n ∷ ns) rise = grind (arith, each_append (λ m. n < m), rise_more b ns)

lacks_above : (id : ℕ) (ss : List SessionState) → AllByRecursion (λ n. id < n) (numbers_in ss)
    → Lacks id ss
lacks_above id [] above = tt
lacks_above id (s ∷ ss) above = grind (arith, lacks_above id ss)

lacks_below : (id : ℕ) (ss : List SessionState) → Rise id (numbers_in ss) → Lacks id ss
lacks_below id [] rise = tt
lacks_below id (s ∷ ss) rise = grind (arith, lacks_below id ss)

lacks_behind : (b : ℕ) (front : List SessionState) (s : SessionState) (back : List SessionState)
    → Rise b (numbers_in (front ++ s ∷ back)) → Lacks s.id back
lacks_behind b [] s back rise = lacks_above s.id back rise.1
lacks_behind b (r ∷ front) s back rise = lacks_behind b front s back rise.2

-- what happened was no attach
abbrev pub Stay : Deed → List Deed → Type 0
Stay d ds =
    (there (d ∷ ds) ≡ filter (λ id. is_there id (d ∷ ds)) (there ds)) ×
    ((known : List Text) → names_then known (d ∷ ds) ≡ names_then known ds) × (attached (d ∷ ds) ≡ attached ds)

-- it changes nothing at the session of a number
abbrev pub Misses : Deed → ℕ → Type 0
Misses (Took x) id = ⊥
Misses (Spoke k line moment) id = ⊥
Misses (Passed k line) id = ⊥
Misses (Drained count) id = Unit {0}
Misses (Asked k line) id = ((k == id) ≡ false) ⊎ (meaning line ≡ means.Nothing)
Misses (Joined k name caps size) id = (k == id) ≡ false
Misses (Left k seen) id = (k == id) ≡ false
Misses (Drew k count) id = (k == id) ≡ false

put_on : (p : Option (List Parts)) (o o' : OutletState) → Sends true o p o' → o.free ≤ o.capacity
    → o.closed ≡ None →
    (put_in p (o.capacity, o.capacity - o.free) ≡ Some (o'.capacity, o'.capacity - o'.free)) ×
    (o'.free ≤ o'.capacity) × (o'.closed ≡ None)
put_on p o o' sends room still = grind (arith, nat_tests)

-- the packets of the session of a number, its outlet, and its name and capabilities
abbrev pub Story : Type 0
Story = List (List Parts) × Option (ℕ × ℕ) × Option (Option Text × Caps)

module _ (l : Limits) where
  abbrev pub story : ℕ → List Deed → Story
  story id ds = (packets l.before id ds, outlet_then id ds, session_then id ds)

  -- What it was sent and what waits for it is as what happened says, and gives its client what it
  -- is to know. Packets wait in all places of its outlet that are not free.
  pub record Sits (ds : List Deed) (s : SessionState) : Type 0 where
    pub is_sent : IsSent l.before ds s
    pub outlet : outlet_then s.id ds ≡ Some (s.outlet.capacity, s.outlet.capacity - s.outlet.free)
    pub room : s.outlet.free ≤ s.outlet.capacity
    pub unclosed : s.outlet.closed ≡ None
    pub tells : Tells s.outlet.sent (reverse (heard_back ds)) (held_since s.id ds) s.caps

  abbrev pub Sit : List Deed → List SessionState → Type 0
  Sit ds ss = AllByRecursion (Sits ds) ss

  -- each is there still, as the second list has it, or is gone
  abbrev pub Goes : List Deed → List SessionState → List SessionState → Type 0
  Goes ds ss ts = Sit ds ts × (numbers_in ts ≡ filter (λ id. is_there id ds) (numbers_in ss))

  goes_gone : (ds : List Deed) (s : SessionState) (ss ts : List SessionState)
      → outlet_then s.id ds ≡ None → Goes ds ss ts → Goes ds (s ∷ ss) ts
  goes_gone ds s ss ts none g = grind (arith, g)

  goes_more : (ds : List Deed) (s t : SessionState) (ss ts : List SessionState) → t.id ≡ s.id
      → Sits ds t → Goes ds ss ts → Goes ds (s ∷ ss) (t ∷ ts)
  goes_more ds s t ss ts same k g = grind (arith, k.outlet)

  pub goes_still : (ds : List Deed) (ss : List SessionState) → Sit ds ss → Goes ds ss ss
  goes_still ds [] sit = (tt, refl)
  goes_still ds (s ∷ ss) sit = grind (arith, goes_more, goes_still ds ss)

  -- what becomes of one session
  abbrev pub Becomes : List Deed → SessionState → Option SessionState → Type 0
  Becomes ds s (Some t) = (t.id ≡ s.id) × Sits ds t
  Becomes ds s None = outlet_then s.id ds ≡ None

  goes_at : (ds : List Deed) (front : List SessionState) (s : SessionState)
      (o : Option SessionState) (back : List SessionState) → Sit ds front → Sit ds back
      → Becomes ds s o → Goes ds (front ++ s ∷ back) (front ++ (option_to_list o ++ back))
  goes_at ds [] s o back before behind here =
      grind (arith, goes_gone, goes_more, goes_still ds back)
  goes_at ds (r ∷ front) s o back before behind here =
      grind (arith, goes_more, goes_at ds front s o back)

  -- who is there, which names are known, and which number comes next, is as what happened says
  pub record Seated (ds : List Deed) (h : HubState) : Type 0 where
    pub sit : Sit ds h.sessions
    pub who : numbers_in h.sessions ≡ there ds
    pub rise : Rise (l.first_session + attached ds) (there ds)
    pub known : AreKnown (names_then l.before.names ds) h.marks
    pub next : h.next ≡ next_then l.first_session ds

  module _ (d : Deed) (ds : List Deed) where
    -- a session is given a packet, or nothing, and then holds these capabilities
    pub record Gets (s : SessionState) (p : Option (List Parts)) (caps : Caps) : Type 0 where
      pub alike : ◌≡◌ {A = Story} (story s.id (d ∷ ds)) (
        packets l.before s.id ds ++ option_to_list p,
        option_and_then (put_in p) (outlet_then s.id ds),
        Some (s.name, caps),
      )
      pub tells : Tells s.outlet.sent (reverse (heard_back ds)) (held_since s.id ds) s.caps →
          Tells (s.outlet.sent ++ option_to_list p) (reverse (heard_back (d ∷ ds)))
          (held_since s.id (d ∷ ds)) caps

    pub sits_on : (s : SessionState) (p : Option (List Parts)) (caps : Caps) (o : OutletState)
        → Gets s p caps → Sits ds s → Sends true s.outlet p o → Sits (d ∷ ds) (with_caps s caps o)
    sits_on s p caps o g k sends = grind (arith, sent_is true, put_on, g.alike, g.tells, k.is_sent)

    -- there was no room for it
    pub cut_off : (s : SessionState) (p : Option (List Parts)) (caps : Caps) → Gets s p caps
        → Sits ds s → Full s.outlet p → outlet_then s.id (d ∷ ds) ≡ None
    cut_off s p caps g k full = grind (arith, nat_tests, g.alike, k.outlet)

    pub goes_delivered : (give : SessionState → Option (List Parts))
        → ((s : SessionState) → Sits ds s → Gets s (give s) s.caps)
        → (ss ts : List SessionState) → Sit ds ss → Delivered true give ss ts → Goes (d ∷ ds) ss ts
    goes_delivered give gets [] ts sit del = rw del (tt, refl)
    goes_delivered give gets (s ∷ ss) ts sit del =
        grind (arith, gets s, sits_on, cut_off, goes_more, goes_gone, goes_delivered give gets ss)

    pub sits_still : (s : SessionState) → Misses d s.id → Sits ds s → Sits (d ∷ ds) s
    sits_still s other k =
        let gets : Gets s None s.caps =
        grind (arith, other, k.is_sent, k.outlet, append-nil, since_stays) in
        sits_on s None s.caps s.outlet gets k refl

    pub sit_still : (id : ℕ) → ((n : ℕ) → (id == n) ≡ false → Misses d n)
        → (ss : List SessionState) → Lacks id ss → Sit ds ss → Sit (d ∷ ds) ss
    sit_still id other [] lacks sit = tt
    sit_still id other (s ∷ ss) lacks sit =
        grind (arith, nat_tests, sits_still s, other s.id, sit_still id other ss)

    -- nothing changes at any session
    pub all_still : ((n : ℕ) → Misses d n) → (ss : List SessionState) → Sit ds ss
        → Goes (d ∷ ds) ss ss
    all_still misses ss sit =
        goes_still (d ∷ ds) ss (all_map (Sits ds) _ (λ s. sits_still s (misses s.id)) ss sit)

    -- the session of a number is another one now, or is gone
    pub goes_around : (h : HubState) (id : ℕ) (a : Around h id) (o : Option SessionState)
        → ((n : ℕ) → (id == n) ≡ false → Misses d n) → Seated ds h → Becomes (d ∷ ds) a.here o
        → Goes (d ∷ ds) h.sessions (a.front ++ (option_to_list o ++ a.back))
    goes_around h id a o other k here =
        let lacks = lacks_behind (l.first_session + attached ds) a.front a.here a.back in
        let front = each_front (Sits ds) a.front (a.here ∷ a.back) in
        let back = each_back (Sits ds) a.front (a.here ∷ a.back) in
        let at = goes_at (d ∷ ds) a.front a.here o a.back in
        let still = sit_still id other in
        grind (arith, lacks, front, back, at, still, a.was, a.number, a.first, k.sit, k.who, k.rise)

    pub seated_on : (h new : HubState) → Seated ds h → Stay d ds → new.next ≡ h.next
        → AreKnown (names_then l.before.names ds) new.marks → Goes (d ∷ ds) h.sessions new.sessions
        → Seated (d ∷ ds) new
    seated_on h new k stay next known g = grind (arith, rise_filter, k.sit, k.who, k.rise, k.next)

  -- a client attached
  pub seated_joined : (ds : List Deed) (h new : HubState) (s : SessionState) (size : ℕ)
      (packet : List Parts) → Seated ds h → h.next ≡ Some s.id
      → TookPacket true (new_outlet size) packet s.outlet
      → packets l.before s.id (Joined s.id s.name s.caps size ∷ ds) ≡ packet ∷ []
      → Tells (packet ∷ []) (reverse (heard_back ds)) (length (heard_back ds)) s.caps
      → new.sessions ≡ h.sessions ++ s ∷ [] → new.next ≡ number_after s.id
      → AreKnown (names_then l.before.names (Joined s.id s.name s.caps size ∷ ds)) new.marks
      → Seated (Joined s.id s.name s.caps size ∷ ds) new
  seated_joined ds h new s size packet k number t sent tells are next known =
      let d = Joined s.id s.name s.caps size in
      let id : l.first_session + attached ds ≡ s.id = grind (arith, nat_tests, k.next, number) in
      let here : Sits (d ∷ ds) s = grind (arith, nat_tests, t, sent, tells) in
      let rise : Rise s.id (there ds) = rw id at k.rise in
      let still = sit_still d ds s.id (λ n other. other) h.sessions in
      let all = each_append (Sits (d ∷ ds)) h.sessions (s ∷ []) in
      let more = rise_more s.id in
      grind (arith, id, here, still, all, rise, more, lacks_below, map-append, k, are, next, known)

-- if no session has the number, it isn't there
pub absent : (id : ℕ) (ds : List Deed) → list_any (λ k. k == id) (there ds) ≡ false
    → outlet_then id ds ≡ None
absent id [] e = refl
absent id (Joined k name caps size ∷ ds) e =
    grind (arith, list_any-append (λ n. n == id) (there ds) (k ∷ []), absent id ds)
absent id (d ∷ ds) e =
    let p = λ (n : ℕ). is_there n (d ∷ ds) in
    let kept = any-filter_same (λ k. k == id) p (p id) (λ k same. ap p (eqb-true k id same)) in
    grind (arith, kept (there ds), absent id ds, same_arms)

pub none_of : (id : ℕ) (ss : List SessionState) → Lacks id ss
    → list_any (λ k. k == id) (numbers_in ss) ≡ false
none_of id [] lacks = refl
none_of id (s ∷ ss) lacks = grind (arith, nat_tests, none_of id ss)
