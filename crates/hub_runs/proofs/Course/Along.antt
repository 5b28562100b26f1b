-- What a list of events keeps, and by which attach each session came.
pub mod Events
pub use Events.*
pub use Rattle.hub_runs.specs.{Course.{Before, given_then}, Late.Attached, Ran.limits_from}
pub use Rattle.hub_runs.specs.{Replies.{answers_behind, deeds_behind}, Transcripts.transcript_of}
pub use Rattle.{hub_runs.specs.Worlds.{AllHappen, numbers_given}, std.proofs.Common.subst}
pub use Rattle.std.proofs.Math.Seq.{append_snoc}

pub happen_more : (es : List Event) (rs : List Reply) (e : Event) (r : Reply) (a b c : WorldState)
    → AllHappen es rs a b → Happens e r b c → AllHappen (es ++ e ∷ []) (rs ++ r ∷ []) a c
happen_more [] [] e r a b c all one = (c, rw all at one, refl)
happen_more (d ∷ es) (q ∷ rs) e r a b c all one =
    (all.0, all.1, happen_more es rs e r all.0 b c all.2 one)
happen_more _ _ e r a b c all one = absurd all

module _ (b : Before) (start : WorldState) (all : List Event) (answers : List Reply) where
  -- the session of a number has attached, with this name or none
  pub record CameBy (ds : List Deed) (id : ℕ) (name : Option Text) : Type 0 where
    pub attach : Attached start all answers id name
    pub more : List (List Parts)
    pub burst : packets b id ds
        ≡ burst_by b.profile.playing (view_of (arrivals (transcript_of attach.before))) attach.caps
        (missed attach.standing.hub (name_of attach.name)) ∷ more
    pub within : length (transcript_of attach.before) ≤ length (heard_back ds)

  -- each that there ever was did, when it was said to
  abbrev pub AllCame : List Deed → Type 0
  AllCame [] = Unit {0}
  AllCame (Joined id name caps size ∷ ds) =
      CameBy (Joined id name caps size ∷ ds) id name × AllCame ds
  AllCame (_ ∷ ds) = AllCame ds

  pub came_plain : (d : Deed) (ds : List Deed) → Plain d → AllCame ds → AllCame (d ∷ ds)
  came_plain d ds plain came = grind arith

  packets_more : (id : ℕ) (d : Deed) (ds : List Deed) → starts id d ≡ false
      → (p : List (List Parts)) × (packets b id (d ∷ ds)
      ≡ packets b id ds ++ p)
  packets_more id (Joined k name caps size) ds other = ([], simp (other, append-nil))
  packets_more id d ds other = (option_to_list (given_then id ds d), refl)

  came_on : (d : Deed) (ds : List Deed) (id : ℕ) (name : Option Text) → starts id d ≡ false
      → CameBy ds id name → CameBy (d ∷ ds) id name
  came_on d ds id name other k =
      let p = packets_more id d ds other in
      record {
        attach = k.attach;
        more = k.more ++ p.0;
        burst = grind (arith, p.1, k.burst);
        within = grind (arith, k.within);
      }

  pub came_then : (id : ℕ) (ds : List Deed) (name : Option Text) → name_then id ds ≡ Some name
      → AllCame ds → CameBy ds id name
  came_then id [] name e came = absurd cc
  came_then id (Joined k new caps size ∷ ds) name e came =
      go (k == id) refl (λ was. came_then id ds name was came.1) where
        go : (b : Bool) → (k == id) ≡ b → (name_then id ds ≡ Some name → CameBy ds id name)
            → CameBy (Joined k new caps size ∷ ds) id name
        go true is old = grind (arith, nat_tests, came.0)
        go false other old =
            let d = Joined k new caps size in
            came_on d ds id name other (old (rw (← name_stays id d ds other) e))
  came_then id (d ∷ ds) name e came =
      came_on d ds id name refl (came_then id ds name (rw (← name_stays id d ds refl) e) came)

  -- after the first ones of these events, with their replies
  pub record Standing (events : List Event) (replies : List Reply) (ds : List Deed)
      (w : WorldState) : Type 0 where
    pub so_far : AllHappen events replies start w
    pub followed : Followed (limits_from b start.hub) ds w.hub
    pub gone : sents w.gone ≡ gones (limits_from b start.hub) ds
    pub numbers : Numbers (limits_from b start.hub) ds (numbers_given replies)
    pub rest : w.rest ≡ rest_after [] events
    pub seen : reverse (came_back ds) ≡ transcript_of events
    pub came : AllCame ds

  module _ (events later : List Event) (replies after : List Reply) (ds : List Deed)
      (w : WorldState) (s : Standing events replies ds w) where
    came_by : (e : Event) (r : Reply) (w' : WorldState) → all ≡ events ++ e ∷ later
        → answers ≡ replies ++ r ∷ after → Happens e r w w'
        → AllCame (with_event b.profile.keeping ds w.rest e (answer_of r))
    came_by (on.Attach caps name size) (reply.Attach (Ok id)) w' are told h =
        let heard = heard_then s.followed in
        let burst = burst_is s.followed caps (name_of name) size id in
        let long = length-map (transcript_of events) (λ (x : Came). x.0) in
        let came : CameBy (Joined id (name_of name) caps size ∷ ds) id (name_of name) = record {
          attach = record {
            before = events;
            caps = caps;
            name = name;
            capacity = size;
            later = later;
            events_are = are;
            told = replies;
            after = after;
            replies_are = told;
            name_is = refl;
            standing = w;
            so_far = s.so_far;
          };
          more = [];
          burst = grind (arith, burst, heard, s.seen, came_heard ds);
          within = grind (arith, s.seen, came_heard ds, length-reverse (heard_back ds), long);
        } in
        (came, s.came)
    came_by (on.Attach caps name size) (reply.Attach (Err e)) w' are told h = s.came
    came_by (on.Attach caps name size) _ w' are told h = absurd h
    came_by (on.Detach id) r w' are told h = grind (arith, s.came)
    came_by (on.Leave id number) r w' are told h = grind (arith, s.came)
    came_by e r w' are told h =
        by_event b.profile.keeping AllCame came_plain ds w.rest e (answer_of r) tt s.came

  -- after the others too
  pub record Stood (ds : List Deed) (rest : List ℕ) (es : List Event) (rs : List Reply)
      (last : WorldState) : Type 0 where
    pub stands : Standing all answers (deeds_behind (limits_from b start.hub) ds rest es) last
    pub answered : map answer_of rs ≡ answers_behind (limits_from b start.hub) ds rest es

  pub go_on : (events es : List Event) (replies rs : List Reply) (ds : List Deed)
      (w last : WorldState) → all ≡ events ++ es → answers ≡ replies ++ rs
      → Standing events replies ds w → AllHappen es rs w last → Stood ds w.rest es rs last
  go_on events [] replies [] ds w last are told s h =
      let k = subst (λ es. Standing es answers ds w) (sym (are ∙ append-nil events))
      (subst (λ rs. Standing events rs ds w) (sym (told ∙ append-nil replies)) s) in
      rw h (record { stands = k; answered = refl })
  go_on events (e ∷ es) replies (r ∷ rs) ds w last are told s h =
      let one = event_done (limits_from b start.hub) ds w e r h.0 s.followed h.1 in
      let next : Standing (events ++ e ∷ []) (replies ++ r ∷ [])
      (with_event b.profile.keeping ds w.rest e (answer_of r)) h.0 = record {
        so_far = happen_more events replies e r start w h.0 s.so_far h.1;
        followed = one.followed;
        gone = one.gone s.gone;
        numbers = rw (filter_map-append number_given replies (r ∷ []))
            (one.numbers (numbers_given replies) s.numbers);
        rest = rw (one.rest, s.rest) (sym (rest_more [] events e));
        seen = let took = transcript_on [] events e in
            grind (arith, came_event b.profile.keeping ds w.rest e (answer_of r), s.seen, took, s.rest);
        came = came_by events es replies rs ds w s e r h.0 are told h.1;
      } in
      let are' = are ∙ sym (append_snoc events e es) in
      let told' = told ∙ sym (append_snoc replies r rs) in
      let k = rw (one.rest, one.answer) at
      (go_on (events ++ e ∷ []) es (replies ++ r ∷ []) rs _ h.0 last are' told' next h.2) in
      record { stands = k.stands; answered = grind (arith, one.answer, k.answered) }
  go_on events _ replies _ ds w last are told s h = absurd h
