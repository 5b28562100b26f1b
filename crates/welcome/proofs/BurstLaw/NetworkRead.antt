-- The lines of channels and of persons bring a client to where the view is.
pub mod ChannelsRead
unfoldable pub use ChannelsRead.*

-- ---- the lines of all channels, and their name lists when a client is on them

module _ (v : View) (caps : Caps) where
  abbrev pub thin : Text → Channel → Channel
  thin = thinned_channel (held caps) (highest_of v)

  -- a channel put into a map
  abbrev pub put : fin.FinMap bytes_cmp Channel → Text × Channel → fin.FinMap bytes_cmp Channel
  put cs e = fin.insert cs e.0 (thin e.0 e.1)

  get-put_all : (es : List (Text × Channel)) → AreIn v.channels es
      → (cs : fin.FinMap bytes_cmp Channel) (c : Text) → fin.get (fold put cs es) c ≡ cond (list_any
      (same c) (map (λ e. e.0) es)) (option_map (thin c) (fin.get v.channels c)) (fin.get cs c)
  get-put_all [] each cs c = refl
  get-put_all (e ∷ es) each cs c =
      grind (look_ups, get-put_all es each.1 (put cs e) c, is_same c e.0, each.0)

  -- all channels put, if there were no others
  pub all_put : (cs : fin.FinMap bytes_cmp Channel)
      → ((c : Text) → fin.get v.channels c ≡ None → fin.get cs c ≡ None) → fold put cs
      (fin.entries v.channels) ≡ thinned_channels (held caps) (highest_of v) v.channels
  all_put cs off =
      same_by_keys (λ c. let all = get-put_all (fin.entries v.channels) (all_in v.channels) cs c
      in grind (arith, all, get-thinned_channels, fin.contains_key-keys v.channels c, off c))

  -- ---- name lists of channels that a client is on

  -- on these channels are the view's members, whose spelling is known
  pub record AreThere (facts : Text → Person) (cs : fin.FinMap bytes_cmp Channel) : Type 0 where
    pub members : Text → Channel → fin.FinMap bytes_cmp (List ℕ)
    pub at : (c : Text) (ch : Channel) → fin.get v.channels c ≡ Some ch
        → fin.get cs c ≡ Some (record ch { members = members c ch })
    pub alike : (c : Text) (ch : Channel) (n : Text)
        → is_some (fin.get (members c ch) n) ≡ is_some (fin.get ch.members n)
    pub spelled : (n : Text) → is_seen cs n ≡ true
        → (facts n).spelled ≡ known_at (λ p. p.spelled) v n

  module _ (src : IsSource v) (k : Text) (ch : Channel) (found : fin.get v.channels k ≡ Some ch)
      (facts : Text → Person) (cs : fin.FinMap bytes_cmp Channel) (there : AreThere facts cs) where
    seen_alike_then : (n : Text) → is_seen (fin.insert cs k (thin k ch)) n ≡ is_seen cs n
    seen_alike_then n =
        seen_alike cs _ n n (λ c.
        grind (look_ups, is_same c k, there.at k ch found, there.alike k ch n, get-thinned_members))

    pub still_there : AreThere facts (fin.insert cs k (thin k ch))
    still_there = record {
      members = λ c x. cond (same c k) (thin c x).members (there.members c x);
      at = λ c x is. grind (look_ups, found, is_same c k, there.at c x);
      alike = λ c x n. grind (arith, there.alike c x n, get-thinned_members);
      spelled = λ n seen. there.spelled n (sym (seen_alike_then n) ∙ seen);
    }

    pub listing_leads : Leads (read_view v cs facts) (listing_lines v caps ch)
        (read_view v (fin.insert cs k (thin k ch)) facts)
    listing_leads =
        let ok = src.sound.channels k ch found in leading_to (listing_read v src caps k ch found
        (read_view v cs facts) refl (there.members k ch) (there.at k ch found) (λ n h. sym
        (there.alike k ch n) ∙ h)) (λ is. facts_alike v (fin.insert cs k (thin k ch)) _ facts (λ n
        seen. grind (arith, get_read cs facts n, seen_alike_then n, there.spelled n, ok.spelled n)))

-- ---- the lines of persons say what is known of them

-- a person with this said
abbrev pub tell : (Person → Person → Person) → (Text → Person) → Text × Person → Text → Person
tell change facts e = changed_at e.0 (change e.1) facts

module _ (v : View) (change : Person → Person → Person)
    (again : (p q : Person) → change p (change p q) ≡ change p q) where
  told_at : (es : List (Text × Person)) → AreIn v.people es → (facts : Text → Person) (n : Text)
      (p : Person) → fin.get v.people n ≡ Some p → fold (tell change) facts es n
      ≡ cond (list_any (same n) (map (λ e. e.0) es)) (change p (facts n)) (facts n)
  told_at [] each facts n p is = refl
  told_at (e ∷ es) each facts n p is =
      let rest = told_at es each.1 (tell change facts e) n p is in
      grind (arith, is_same n e.0, rest, again p (facts n), each.0, is)

  -- each person of the view with this said
  pub all_told : (facts : Text → Person) (n : Text) (p : Person) → fin.get v.people n ≡ Some p
      → fold (tell change) facts (fin.entries v.people) n ≡ change p (facts n)
  all_told facts n p is =
      let told = told_at (fin.entries v.people) (all_in v.people) facts n p is in
      grind (arith, told, is, fin.contains_key-keys v.people n)

-- ---- the lines of one person

-- what a person becomes by the burst, which says what is known, and by the catch-up, which says
-- also that nothing is; both if the capability lets it
abbrev pub told_more : Caps → Person → Person → Person
told_more caps q x = record x {
  account = option_or (cond caps.account_notify q.account None) x.account;
  away = option_or (cond caps.away_notify q.away None) x.away;
}

abbrev pub told_anew : Caps → Person → Person → Person
told_anew caps q x = record x {
  account = cond caps.account_notify q.account x.account;
  away = cond caps.away_notify q.away x.away;
}

-- a line of a person
abbrev said_line : Person → Text → List Text → Parts
said_line p command params =
    record { tags = None; source = p.spelled; command = command; params = params }

-- the lines change what is known of the person of this key
pub record Tells (v : View) (cs : fin.FinMap bytes_cmp Channel) (m : Text) (lines : List Parts)
    (change : Person → Person) : Type 0 where
  pub on : (facts : Text → Person)
      → Leads (read_view v cs facts) lines (read_view v cs (changed_at m change facts))

tells : {v : View} {cs : fin.FinMap bytes_cmp Channel} {m : Text} {lines : List Parts}
    {change : Person → Person} → ((facts : Text → Person) → Leads (read_view v cs facts) lines
    (read_view v cs (changed_at m change facts))) → Tells v cs m lines change
tells on = record { on = on }

module _ (v : View) (sound : IsSound v) (m : Text) (p : Person) (found : fin.get v.people m ≡ Some p)
    (cs : fin.FinMap bytes_cmp Channel) where
  nothing : (f : Person → Person) → ((x : Person) → f x ≡ x) → Tells v cs m [] f
  nothing f same = tells (λ facts. leading_to (no_lines _) (λ _. facts_alike v cs facts _ (λ n seen.
      grind (arith, same (facts n)))))

  both : {f g : Person → Person} (a b : List Parts) (h : Person → Person) → Tells v cs m a f
      → Tells v cs m b g → ((x : Person) → g (f x) ≡ h x) → Tells v cs m (a ++ b) h
  both a b h one two same = tells (λ facts. leading_to (and_then a b (one.on facts) (two.on _))
      (λ _. facts_alike v cs _ _ (λ n seen. grind (arith, same (facts n)))))

  -- the line is the person's
  actor_is : (line : Parts) → line.source ≡ p.spelled
      → option_map (name_of v.settings) (actor_nick line)
      ≡ Some (record { key = m; spelled = unwrap_or p.spelled [] })
  actor_is line e = grind (arith, e, (sound.people m p found).spelled, actor_of_nick line)

  account_leads : (text : Text) (account : Option Text) → account_said text ≡ Some account
      → Tells v cs m (said_line p (codes "ACCOUNT") (text ∷ []) ∷ []) (with_account account)
  account_leads text account said =
      let line = said_line p (codes "ACCOUNT") (text ∷ []) in
      tells (λ facts. one_line (read_view v cs facts) line (HasAccount m account) _
      (simp (told_of_account v.settings line refl, actor_is line refl, said)) (λ is. after_account
      _ is.sets is.sound.known m account ∙ person_changed v cs facts m (with_account account)))

  away_leads : (params : List Text) (away : Option Text) → option_and_then unless_empty (slice_get
      params 0) ≡ away → Tells v cs m (said_line p (codes "AWAY") params ∷ []) (with_away away)
  away_leads params away said =
      let line = said_line p (codes "AWAY") params in
      tells (λ facts. one_line (read_view v cs facts) line
      (IsAway m away) _ (simp (told_of_away v.settings line refl, actor_is line refl, said)) (λ is.
      after_away _ is.sets is.sound.known m away ∙ person_changed v cs facts m (with_away away)))

  -- ---- what the burst says: what is known, if the capability lets it

  more_account : (said : Option Text) → ForSome said IsAccount → Tells v cs m (line_of_person p
      (codes "ACCOUNT") said) (λ x. record x { account = option_or said x.account })
  more_account None ok = nothing _ (λ x. refl)
  more_account (Some text) ok =
      account_leads text (Some text) (account_written (Some text) (ok text refl))

  more_away : (said : Option Text) → ForSome said IsFilled → Tells v cs m
      (line_of_person p (codes "AWAY") said) (λ x. record x { away = option_or said x.away })
  more_away None ok = nothing _ (λ x. refl)
  more_away (Some text) ok = away_leads (text ∷ []) (Some text) (filled_said text (ok text refl))

  pub person_leads : (caps : Caps) → Tells v cs m (person_lines caps p) (told_more caps p)
  person_leads caps =
      let ok = sound.people m p found in both _ _ _
      (more_account (cond caps.account_notify p.account None) (λ t e. ok.account t (grind arith)))
      (more_away (cond caps.away_notify p.away None) (λ t e. ok.away t (grind arith))) (λ x. refl)

  -- ---- what the catch-up says: all that is known, and that nothing is

  -- a line that is left out without a capability
  if_held : (b : Bool) (line : Parts) (change : Person → Person) → Tells v cs m (line ∷ []) change
      → Tells v cs m (cond b (line ∷ []) []) (λ x. cond b (change x) x)
  if_held true line change one = one
  if_held false line change one = nothing _ (λ x. refl)

  pub facts_lead : (caps : Caps) → Tells v cs m (fact_lines caps p) (told_anew caps p)
  facts_lead caps =
      let ok = sound.people m p found in
      let known = account_written p.account (if_some IsAccount p.account ok.account) in
      let away = away_leads (option_to_list p.away) p.away (grind (arith, filled_said, ok.away)) in
      both _ _ _ (if_held caps.account_notify (account_line p) _ (account_leads _ p.account known))
      (if_held caps.away_notify (away_line p) _ away) (λ x. grind arith)

-- what is kept then of a client on all channels is what there is
pub persons_kept : (v : View) → IsSound v → (caps : Caps) (change : Person → Person → Person)
    → ((p q : Person) → change p (change p q) ≡ change p q)
    → (facts : Text → Person) → ((n : Text) (p : Person) → fin.get v.people n ≡ Some p → kept_person
    (held caps) (change p (facts n)) ≡ kept_person (held caps) p) → kept_by (held caps)
    (read_view v (thinned_channels (held caps) (highest_of v) v.channels) (fold (tell change) facts
    (fin.entries v.people))) ≡ kept_by (held caps) (thinned (held caps) (highest_of v) v)
persons_kept v sound caps change again facts kept =
    let cs = thinned_channels (held caps) (highest_of v) v.channels in
    let now = fold (tell change) facts (fin.entries v.people) in
    alike_kept (held caps) (read_view v cs now) (thinned (held caps) (highest_of v) v) (record {
      own = refl;
      ready = refl;
      settings = refl;
      channels = refl;
      people = λ n.
          let seen = seen-thinned (held caps) (highest_of v) v.channels n ∙ sym (sound.known n) in
          grind (arith, get_read cs now n, seen, all_told v change again facts n, kept n);
    })
