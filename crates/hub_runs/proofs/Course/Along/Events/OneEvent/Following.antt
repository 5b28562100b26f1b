-- A hub over ends in memory is as what happened says: each step keeps that.
pub mod Present
unfoldable pub use Present.*
pub use Rattle.hub_core.proofs.{Each.each_at, Kept.{kept_is_message, messages_stay, said_is_message}}
pub use Rattle.hub_core.specs.Saying.{is_spread, is_spread_by}
pub use Rattle.hub_runs.specs.{Replies.spoken}
pub use Rattle.history.specs.{Entry.is_message, Keeping.Kept}
pub use Rattle.hub_core.proofs.{Kept.missed_are_messages, Running.{is_ready, less_none}}
pub use Rattle.hub_core.specs.Attaching.{Attaches, Goes as SessionGoes, last_number, left_by, mark_at, missed}
pub use Rattle.hub_core.specs.declared.detach.Seen.{Seen}
pub use Rattle.hub_core.specs.{Given.with_outlet, InMemory.{DrainsAt, DrainsUpstream}}
pub use Rattle.hub_core.specs.{Pumping.{Comes, entry_kept}, Running.AreMessages, Saying.Answers}
pub use Rattle.hub_core.specs.Saying.{Cuts, Forwards, after_answer, answer_packet, entry_said}
pub use Rattle.hub_core.specs.{Saying.{sent_up, with_sessions}, States.heard}
pub use Rattle.hub_core.specs.declared.hub.Pumped.TheVariants.{Nothing, Taken}
pub use Rattle.{hub_ends.specs.Came.arrivals, hub_runs.specs.Course.{kept_then, mark_then}}
use Rattle.hub_core.specs.States.{ProfileParts}
use Rattle.std.proofs.Common.{ap, if◌then◌else◌, ◌∙◌}
pub use Rattle.{hub_runs.specs.Course.{came_back, message_said, messages, view_then}, std.proofs.Common.inl}
pub use Rattle.std.proofs.lemmas.List.{length-reverse, reverse-append, reverse-reverse}

-- what was heard is all that was taken
pub heard_is : (h : HubState) → h.held ≡ None → heard h ≡ arrivals h.taken
heard_is h e = grind (arith, less_none)

-- items are what came, without the moments
pub came_heard : (ds : List Deed) → arrivals (reverse (came_back ds)) ≡ reverse (heard_back ds)
came_heard [] = refl
came_heard (Took x ∷ ds) =
    let came = reverse-append (x ∷ []) (came_back ds) in
    let heard = reverse-append (x.0 ∷ []) (heard_back ds) in
    grind (arith, came, heard, map-append, came_heard ds)
came_heard (d ∷ ds) = came_heard ds

-- the item that comes is the one that was put
the_one : (h : HubState) (x y : Came) (later : List Came) → h.held ≡ None → h.ahead ≡ []
    → Comes true h.held (h.ahead ++ x ∷ []) y later → (y ≡ x) × (later ≡ [])
the_one h x y later held ahead comes = grind arith

-- the session that goes
abbrev pub around_gone : {seen : Seen} {h : HubState} {id : ℕ} {o : OutletState} {told : Option ℕ}
    {new : HubState} → SessionGoes seen h id o told new → Around h id
around_gone d = record {
  front = d.front;
  here = d.gone;
  back = d.back;
  was = d.was;
  first = d.first;
  number = d.number;
}

-- what there is between calls
pub record Followed (l : Limits) (ds : List Deed) (h : HubState) : Type 0 where
  pub profile : h.profile ≡ l.before.profile
  pub held : h.held ≡ None
  pub ahead : h.ahead ≡ []
  pub taken : h.taken ≡ reverse (came_back ds)
  pub seated : Seated l ds h
  pub history : h.history ≡ kept_then l.before ds
  pub messages : AreMessages h.history.kept
  pub ups : Ups l.upstream ds h.upstream
  pub marks : (name : Text) → mark_of name h.marks ≡ mark_then l.before name ds
  -- a message more is kept as such
  pub keeps : KeepsOn l.before.kept

module _ {l : Limits} {ds : List Deed} {h : HubState} (f : Followed l ds h) where
  pub heard_then : heard h ≡ reverse (heard_back ds)
  heard_then = grind (arith, heard_is, f.held, f.taken, came_heard ds)

  pub now_seen : view_now h ≡ view_then ds
  unfolding view_of
  now_seen = grind (arith, heard_then, reverse-reverse)

  -- one thing more, by which this message came, if any
  followed_by : (d : Deed) (now : HubState) (e : Option _) → now.profile ≡ h.profile
      → now.held ≡ None → now.ahead ≡ []
      → now.taken ≡ reverse (came_back (d ∷ ds)) → Seated l (d ∷ ds) now
      → now.history ≡ with_entry h.history e
      → messages l.before.profile.keeping (d ∷ ds)
      ≡ messages l.before.profile.keeping ds ++ option_to_list e → (IsSome e → IsSome h.history.next)
      → IfSome e (λ e. IsTrue (is_message_command e.command)) → Ups l.upstream (d ∷ ds) now.upstream
      → ((n : Text) → mark_of n now.marks ≡ mark_then l.before n (d ∷ ds))
      → Followed l (d ∷ ds) now
  followed_by d now e profile held ahead taken seated history more number is ups marks =
      let kept = f.keeps (messages l.before.profile.keeping ds) e in
      grind (arith, kept, profile, f.profile, f.history, messages_stay h.history e f.messages, f.keeps)

  pub took : (x : Came) (p : Pumped) (n : HubState) → TakesIn h x p n → Followed l (Took x ∷ ds) n
  took x Nothing new t = grind (arith, f.ahead)
  took x (Taken cut) new t =
      let one = the_one h x t.item new.ahead f.held f.ahead t.comes.ahead in
      let turned = reverse-append (x.0 ∷ []) (heard_back ds) in
      let put = reverse-append (x ∷ []) (came_back ds) in
      let more : new.taken ≡ reverse (came_back (Took x ∷ ds)) =
      rw (t.comes.taken, f.held, one.0) (cc (put, f.taken)) in
      rw t.others (followed_by (Took x) _ (entry_kept l.before.profile.keeping x) refl t.held one.1 more
      (seated_on l _ _ _ _ f.seated (refl, (λ known. refl), refl) refl f.seated.known
      (goes_delivered l _ _ (λ s. packet_for (view_now h) t.item s.caps) (λ s k. record {
        alike = simp (k.is_sent.1, now_seen, one.0);
        tells = λ t. rw (heard_then, one.0, turned) (told_item _ _ _ _ t x);
      }) h.sessions new.sessions f.seated.sit t.sessions))
      (rw (one.0, f.profile) at t.history) refl (rw (one.0, f.profile) at t.number)
      (kept_is_message l.before.profile.keeping x)
      (ups_took f.ups x _ (pong_for x.0) refl (rw one.0 at t.upstream)) f.marks)

  -- what is a message that is kept
  pub spread_is : (line : Parts)
      → is_spread_by l.before.profile.keeping (view_then ds) line ≡ is_spread h line
  spread_is line = rw (← f.profile, now_seen) refl

  pub spoke : (id : ℕ) (line : Parts) (moment : ℕ) (new : HubState)
      → is_spread h line ≡ is_message line → Forwards true h id line moment new
      → Followed l (Spoke id line moment ∷ ds) new
  spoke id line moment new same w =
      let d = Spoke id line moment in
      let own = own_message h line moment in
      let own_is : own ≡ message_said (view_then ds) line moment = rw (same, now_seen) refl in
      let gets : (s : SessionState) → Sits l ds s
      → Gets l d ds s (given_others h id own s) s.caps = λ s k. record {
        alike = grind (arith, k.is_sent, now_seen);
        tells = λ t. told_quiet _ _ _ _ t _ (said_to_others h id line moment s);
      } in
      let k = l.before.profile.keeping in
      rw w.others (followed_by d _ (entry_said k own) refl f.held f.ahead f.taken
      (seated_on l _ _ _ _ f.seated (refl, (λ known. refl), refl) refl f.seated.known
      (goes_delivered l _ _ _ gets h.sessions new.sessions f.seated.sit w.sessions))
      (w.history ∙ ap (λ (p : ProfileParts). with_entry h.history (entry_said p.keeping own)) f.profile)
      (grind (arith, own_is)) (λ some. w.number (grind (arith, some)))
      (said_is_message k own)
      (ups_one f.ups d _ (sent_up line ∷ []) refl refl w.upstream) f.marks)

  -- it is a message that is not kept
  passed : (id : ℕ) (line : Parts) (moment : ℕ) (new : HubState) → is_spread h line ≡ false
      → Forwards true h id line moment new → Followed l (Passed id line ∷ ds) new
  passed id line moment new unspread w =
      let d = Passed id line in
      let none : own_message h line moment ≡ None = rw unspread refl in
      let gets : (s : SessionState) → Sits l ds s
      → Gets l d ds s (given_others h id None s) s.caps = λ s k. record {
        alike = grind (arith, k.is_sent, k.outlet);
        tells = λ t. told_quiet _ _ _ _ t None tt;
      } in
      rw w.others (followed_by d _ None refl f.held f.ahead f.taken
      (seated_on l _ _ _ _ f.seated (refl, (λ known. refl), refl) refl f.seated.known
      (goes_delivered l _ _ _ gets h.sessions new.sessions f.seated.sit (rw none at w.sessions)))
      (rw none at w.history) refl (λ some. absurd cc) tt
      (ups_one f.ups d _ (sent_up line ∷ []) refl refl w.upstream) f.marks)

  -- a line went to the network
  pub said_so : (id : ℕ) (line : Parts) (moment : ℕ) (new : HubState)
      → Forwards true h id line moment new
      → Followed l (spoken l.before.profile.keeping (view_then ds) id line moment ∷ ds) new
  said_so id line moment new w = rw (spread_is line) (go (is_message line) (is_spread h line) refl refl)
    where
      go : (m s : Bool) → is_message line ≡ m → is_spread h line ≡ s
          → Followed l ((if m && not s then Passed id line else Spoke id line moment) ∷ ds) new
      go true false e unspread = passed id line moment new unspread w
      go true true e spread = spoke id line moment new (spread ∙ sym e) w
      go false false e unspread = spoke id line moment new (unspread ∙ sym e) w
      go false true e spread =
          let message = spread_is_message h.profile.keeping (view_now h) line spread in absurd cc

  pub session_at : (id : ℕ) (a : Around h id) → Sits l ds a.here
  session_at id a = grind (arith, each_at (Sits l ds) a.front a.here a.back, a.was, f.seated.sit)

  -- it changes sessions, names and the outlet to the network alone
  alone_on : (d : Deed) (ss : List SessionState) (o : OutletState) (marks : NameMarks)
      → came_back (d ∷ ds) ≡ came_back ds
      → messages l.before.profile.keeping (d ∷ ds) ≡ messages l.before.profile.keeping ds ++ []
      → Stay d ds
      → Goes l (d ∷ ds) h.sessions ss → Ups l.upstream (d ∷ ds) o → AreKnown (names_then l.before.names ds) marks
      → ((n : Text) → mark_of n marks ≡ mark_then l.before n (d ∷ ds))
      → Followed l (d ∷ ds) record h { sessions = ss; upstream = o; marks = marks }
  alone_on d ss o marks took none stay goes ups known is =
      let now = record h { sessions = ss; upstream = o; marks = marks } in
      let seated = seated_on l d ds h now f.seated stay refl known goes in
      followed_by d now None refl f.held f.ahead (rw took f.taken) seated refl none (λ some. absurd cc)
      tt ups is

  -- sessions alone
  sessions_on : (d : Deed) (ss : List SessionState)
      → came_back (d ∷ ds) ≡ came_back ds
      → messages l.before.profile.keeping (d ∷ ds) ≡ messages l.before.profile.keeping ds ++ []
      → Stay d ds
      → up_by l.upstream (waiting l.upstream ds) d ≡ [] → taken_out d ≡ 0
      → ((n : Text) → mark_then l.before n (d ∷ ds)
      ≡ mark_then l.before n ds) → Goes l (d ∷ ds) h.sessions ss
      → Followed l (d ∷ ds) (with_sessions h ss)
  sessions_on d ss took none stay up out same goes =
      alone_on d ss _ _ took none stay goes (ups_quiet f.ups d up out) f.seated.known
      (λ n. f.marks n ∙ sym (same n))

  -- the line of the session of a number was answered by what became of it
  pub asked : (id : ℕ) (line : Parts) (a : Around h id) (o : Option SessionState)
      → Becomes l (Asked id line ∷ ds) a.here o
      → Followed l (Asked id line ∷ ds) (with_sessions h (a.front ++ (option_to_list o ++ a.back)))
  asked id line a o here =
      sessions_on _ _ refl refl (refl, (λ known. refl), refl) refl refl (λ n. refl)
      (goes_around l _ ds h id a o (λ n e. inl e) f.seated here)

  -- what it is given
  asked_gets : (id : ℕ) (line : Parts) → meaning line ≡ means.Asks → (a : Around h id)
      → Gets l (Asked id line) ds a.here (answer_packet (view_now h) a.here line)
      (asked_caps a.here.caps line)
  asked_gets id line asks a =
      let k = session_at id a in
      let n = a.number in
      grind (arith, nat_tests, n, k.is_sent, asks, now_seen, heard_then, length-reverse, told_asked)

  pub answered : (id : ℕ) (line : Parts) (new : HubState) → meaning line ≡ means.Asks
      → (w : Answers true h id line new)
      → Sits l (Asked id line ∷ ds) (after_answer w.around.here line w.given)
  answered id line new asks w =
      sits_on l _ _ _ _ _ w.given (asked_gets id line asks w.around) (session_at id w.around) w.sent

  -- there was no room for the answer
  pub cut : (id : ℕ) (line : Parts) (new : HubState) → meaning line ≡ means.Asks
      → (w : Cuts h id line new) → outlet_then w.around.here.id (Asked id line ∷ ds) ≡ None
  cut id line new asks w =
      grind (arith, cut_off, asked_gets id line asks w.around, session_at id w.around, w.full)

  -- a line that asks for nothing was answered by nothing
  pub unasked : (id : ℕ) (line : Parts) → meaning line ≡ means.Nothing
      → Followed l (Asked id line ∷ ds) h
  unasked id line e =
      sessions_on _ _ refl refl (refl, (λ known. refl), refl) refl refl (λ n. refl)
      (all_still l _ _ (λ n. inr e) h.sessions f.seated.sit)

  -- its name, which is known, has the mark that it left
  mark_after : (id : ℕ) (seen : Seen) (s : SessionState) → session_then id ds ≡ Some (s.name, s.caps)
      → Known h.marks s.name → (n : Text)
      → mark_of n (marked s.name (left_by seen (last_number h.history) (mark_at s.name h.marks)) h.marks)
      ≡ mark_then l.before n (Left id seen ∷ ds)
  mark_after id seen s joined named n =
      let by = λ (mark : Option ℕ). left_by seen (last_number h.history) mark in
      let same = ap (option_and_then (λ (j : Option Text × Caps). j.0)) (sym joined) in
      left_mark h.marks s.name by n named
      ∙ (λ k. mark_left n (same k) (left_by seen (last_number (f.history k)) (f.marks n k)) (f.marks n k))

  pub left : (id : ℕ) (seen : Seen) (o : OutletState) (told : Option ℕ) (new : HubState)
      → SessionGoes seen h id o told new → Followed l (Left id seen ∷ ds) new
  left id seen o told new d =
      let s = d.gone in
      let joined : session_then id ds ≡ Some (s.name, s.caps) =
      grind (arith, d.number, session_at id (around_gone d)) in
      let known = is_named l.before.names id ds s.name (rw joined refl) in
      let named : Known h.marks s.name = grind (arith, known, f.seated.known.each) in
      let mark = left_by seen (last_number h.history) (mark_at s.name h.marks) in
      rw d.is (alone_on (Left id seen) _ _ _ refl refl (refl, (λ known. refl), refl)
      (goes_around l _ _ h id (around_gone d) None (λ n e. e) f.seated
      (grind (arith, nat_tests, d.number))) (ups_quiet f.ups _ refl refl)
      (known_marked (names_then l.before.names ds) h.marks s.name mark named f.seated.known)
      (mark_after id seen s joined named))

  -- the burst of the session of a number
  pub burst_is : (caps : Caps) (name : Option Text) (size id : ℕ)
      → packets l.before id (Joined id name caps size ∷ ds)
      ≡ burst_by l.before.profile.playing (view_now h) caps (missed h name) ∷ []
  burst_is caps name size id =
      grind (arith, nat_tests, now_seen, f.marks, f.history)

  pub joined : (caps : Caps) (name : Option Text) (size id : ℕ) (new : HubState)
      → Attaches true h caps name (new_outlet size) id new
      → Followed l (Joined id name caps size ∷ ds) new
  joined caps name size id new a =
      let s : SessionState = record { id = id; name = name; caps = caps; outlet = a.given } in
      let told = told_burst l.before.profile.playing (reverse (heard_back ds)) caps (missed h name)
      (rw heard_then at (is_ready h name a.allowed))
      (missed_are_messages _ h.history.kept f.messages) in
      rw a.is (followed_by _ _ None refl f.held f.ahead f.taken
      (seated_joined l ds h _ s size _ f.seated a.number (rw f.profile at a.sent) (burst_is caps name size id)
      (grind (arith, heard_then, length-reverse (heard_back ds), told)) refl refl
      (known_named (names_then l.before.names ds) h.marks name f.seated.known)) refl refl (λ some. absurd cc) tt
      (ups_quiet f.ups _ refl refl) (λ n. grind (arith, named_mark h.marks name n, f.marks n)))

  pub drained_up : (most taken : ℕ) (new : HubState) → DrainsUpstream h most taken new
      → Followed l (Drained taken ∷ ds) new
  drained_up most taken new d =
      rw d.is (alone_on _ _ _ _ refl refl (refl, (λ known. refl), refl)
      (all_still l _ _ (λ n. tt) h.sessions f.seated.sit)
      (ups_drained f.ups d.given most taken d.drained) f.seated.known f.marks)

  -- packets were taken out of its outlet
  drew_some : (id most taken : ℕ) (s : SessionState) (o : OutletState) → s.id ≡ id
      → Sits l ds s → Drains s.outlet most taken o → Sits l (Drew id taken ∷ ds) (with_outlet s o)
  drew_some id most taken s o number k d =
      grind (arith, nat_tests, k.is_sent, append-nil, k.outlet)

  pub drained_at : (id most taken : ℕ) (new : HubState) → DrainsAt h id most taken new
      → Followed l (Drew id taken ∷ ds) new
  drained_at id most taken new d =
      let still = sit_still l (Drew id taken) ds id (λ n e. e) h.sessions in
      let on = λ (ss : List SessionState).
      sessions_on (Drew id taken) ss refl refl (refl, (λ known. refl), refl) refl refl (λ n. refl) in
      elim d [
        | inl e ↦ rw e.2 (on h.sessions (goes_still l _ _ (still e.0 f.seated.sit)))
        | inr e ↦ (let a = e.around in
            let now = drew_some _ _ _ _ _ a.number (session_at id a) e.drained in
            rw e.is (on _ (goes_around l _ _ h id a (Some _) (λ n e. e) f.seated (refl, now))))
      ]
