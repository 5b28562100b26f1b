-- The lines of a channel bring a client to that channel.
pub mod LinesRead
unfoldable pub use LinesRead.*

-- the highest rank of each member
abbrev pub highest_of : View → Shown
highest_of v c n rank = highest (λ r. had_rank r (old_member (fin.get v.channels c) n)) rank

-- a person whom a name list has named, and our account if our JOIN gives it
abbrev pub first_person : View → Caps → Text → Text → Person
first_person v caps me n = record {
  spelled = known_at (λ p. p.spelled) v n;
  account = cond (same n me && caps.extended_join) (known_at (λ p. p.account) v n) None;
  away = None;
}

module _ (v : View) (src : IsSource v) (caps : Caps) (k : Text) (ch : Channel)
    (found : fin.get v.channels k ≡ Some ch) where
  abbrev us : Text
  us = key_by v.settings src.nick

  abbrev ok : IsSoundChannel v k ch
  ok = src.sound.channels k ch found

  -- we are a member
  here : is_some (fin.get ch.members us) ≡ true
  here = grind (arith, src.own, ok.own)

  -- ---- the members, in rows of words and in one list

  row_read : (row : List Text) → Each IsPlain row
      → told v.settings (Received (name_row v ch.name row)) ≡ Present k (listed v.settings row)
  row_read row each =
      let line = name_row v ch.name row in
      simp (told_of_names v.settings line refl, ok.key, listings_joined v.settings row each)

  rows_read : (row : List Text) (rows : List (List Text)) (w : View) → w.settings ≡ v.settings
      → Each IsPlain (all_of (row ∷ rows)) → Leads w (map (name_row v ch.name) (row ∷ rows))
      (after_told w (Present k (listed v.settings (all_of (row ∷ rows)))))
  rows_read row [] w s each =
      one_line w (name_row v ch.name row) (Present k (listed v.settings row)) _
      (rw s (row_read row (each_front IsPlain row [] each))) (λ _. simp append-nil)
  rows_read row (next ∷ rows) w s each =
      let rest = all_of (next ∷ rows) in
      let t = Present k (listed v.settings row) in
      leading_to (and_then (name_row v ch.name row ∷ []) _ (one_line w (name_row v ch.name row) t
      (after_told w t) (rw s (row_read row (each_front IsPlain row rest each))) (λ _. refl))
      (rows_read next rows (after_told w t) s (each_back IsPlain row rest each)))
      (λ is. rw (← view_in_parts w k (listed v.settings row) (listed v.settings rest) is.sound)
      (ap (λ ls. after_told w (Present k ls)) (sym (filter_map-append _ row rest))))

  names_read : (w : View) → w.settings ≡ v.settings → Leads w
      (names_lines v caps ch) (after_told w (Present k (listings v caps.multi_prefix ch.members)))
  names_read w s = by_rows (rows_of is_short words) refl where
    words : List Text
    words = map (member_word v caps.multi_prefix) (fin.entries ch.members)

    by_rows : (rows : List (List Text)) → rows_of is_short words ≡ rows → Leads w (map (name_row
        v ch.name) rows) (after_told w (Present k (listings v caps.multi_prefix ch.members)))
    by_rows [] e =
        let none = nil_from_length (fin.entries ch.members) (sym (length-map
        (fin.entries ch.members) _) ∙ ap length (sym (rw e at (rows_all is_short words)))) in
        absurd (grind (arith, none, fin.get-entries ch.members us, here))
    by_rows (row ∷ rows) e =
        let written = members_written v src k ch found in
        let whole : all_of (row ∷ rows) ≡ words = ap all_of (sym e) ∙ rows_all is_short words in
        rw (← members_read v caps.multi_prefix _ written, ← whole) (rows_read row rows w s (rw whole
        (mapped (IsWrittenMember v) IsPlain _ (word_plain v caps.multi_prefix) _ written)))

  abbrev seen_here : Channel
  seen_here = thinned_channel (held caps) (highest_of v) k ch

  thin_read : (n : Text) (ranks : List ℕ) → fin.get ch.members n ≡ Some ranks
      → ranks_read caps.multi_prefix ranks ≡ thinned_ranks (held caps) (highest_of v k n) ranks
  thin_read n ranks there =
      let ranked = src.formed.ranks k ch found n ranks there in ranks_alike _ _
      (λ rank h. grind (arith, has-first (has_rank ranks) rank h, ranked, found, there))

  seen_read : (n : Text) → fin.get seen_here.members n
      ≡ option_map (ranks_read caps.multi_prefix) (fin.get ch.members n)
  seen_read n = grind (arith, get-thinned_members (held caps) (highest_of v) k ch n, thin_read n)

  pub listing_read : (w : View) → w.settings ≡ v.settings → (ms : fin.FinMap bytes_cmp (List ℕ))
      → fin.get w.channels k ≡ Some (record ch { members = ms })
      → ((n : Text) → is_some (fin.get ms n) ≡ true → is_some (fin.get ch.members n) ≡ true)
      → Leads w (listing_lines v caps ch) (record w {
        channels = fin.insert w.channels k seen_here;
        people = people_read (fin.insert w.channels k seen_here) (listed_person v w ch.members);
      })
  unfolding state_lines
  listing_read w s ms there within =
      and_then (names_lines v caps ch) (names_end v ch ∷ []) (leading_to (names_read w s)
      (λ is. list_read v caps.multi_prefix ch.members w is.sets k (record ch { members = ms })
      there within seen_here.members seen_read)) (unread_line _ (names_end v ch) refl)

  -- ---- our JOIN

  abbrev first : Text → Person
  first = first_person v caps us

  abbrev joined : Text → Person
  joined = changed_at us (λ p. record p { spelled = Some src.nick }) first

  abbrev fresh : Channel
  fresh = fresh_channel ch.name us

  -- the account that our JOIN gives
  abbrev own_said : Option (Option Text)
  own_said = cond caps.extended_join (Some (known_at (λ p. p.account) v us)) None

  module _ (cs : fin.FinMap bytes_cmp Channel) where
    -- with one channel more
    abbrev seen_with : Channel → (Text → Person) → View
    seen_with there facts = read_view v (fin.insert cs k there) facts

    join_leads : Leads (read_view v cs first) (join_line v caps ch ∷ []) (seen_with fresh joined)
    join_leads =
        let line = join_line v caps ch in
        let nameable = src.sound.own src.nick src.own in
        let own = account_named v src.nick nameable in
        let written = account_written (known_at (λ p. p.account) v us) (if_some IsAccount _ (λ a e.
        option_and_then_some (λ (p : Person). p.account) (fin.get v.people us) a e
        (λ p is at. (src.sound.people us p is).account a at))) in
        let said : option_and_then account_said (slice_get line.params 1) ≡ own_said =
        grind (arith, src.own, own, written) in
        let actor = actor_of_nick line src.nick src.own nameable in
        let w = read_view v cs first in
        let ds = fin.insert cs k fresh in
        let us_named = name_of v.settings src.nick in
        one_line w line (Joined (record { key = k; spelled = ch.name }) true us_named own_said) _
        (simp (told_of_join v.settings line refl, actor, said, ok.key, ok.name)) (λ is.
        let old = told_person (Some (Some src.nick)) own_said None (fin.get w.people us) in
        let ours : us_of w us ≡ true = grind (arith, src.own, same_refl us) in
        let before : (n : Text) → same n us ≡ false → is_seen ds n ≡ true → is_seen cs n ≡ true =
        λ n other seen. grind (look_ups, (seen_somewhere ds n seen).1, fin.get-empty) in
        let people : fin.retain_keys (fin.insert w.people us old) (is_seen ds)
        ≡ people_read ds joined = same_by_keys (λ n.
        grind (look_ups, get_read cs first, get_read ds joined, before n, is_same n us)) in
        let ready : is_some v.own ≡ v.ready = ap is_some src.own ∙ sym src.ready in
        after_own_join w is.sets is.sound.known (record { key = k; spelled = ch.name }) us_named
        own_said ours ∙ (λ i. record v { ready = ready i; channels = ds; people = people i }))

    -- ---- topic and modes

    abbrev titled : Channel
    titled = record fresh { topic = ch.topic }

    abbrev moded : Channel
    moded = record titled { modes = ch.modes }

    topic_leads : (o : Option Text) → ForSome o IsFilled → Leads (seen_with fresh joined)
        (map (λ text. reply v (codes "332") (ch.name ∷ text ∷ [])) (option_to_list o))
        (seen_with (record fresh { topic = o }) joined)
    topic_leads None filled = no_lines _
    topic_leads (Some text) filled =
        let line = reply v (codes "332") (ch.name ∷ text ∷ []) in
        one_line (seen_with fresh joined) line (Titled k (Some text)) _ (simp
        (told_of_topic_reply v.settings line refl, ok.key, filled_said text (filled text refl)))
        (λ is. after_topic _ is.sets is.sound.known k
        (Some text) ∙ on_this_channel v cs k fresh joined (with_topic (Some text)) (λ n. refl))

    modes_lead : (es : List (ℕ × Option Text)) → fin.entries ch.modes ≡ es
        → Leads (seen_with titled joined) (mode_lines v ch es) (seen_with moded joined)
    modes_lead [] e =
        rw (fin.empty_of_len ch.modes (fin.len-entries ch.modes ∙ ap length e)) (no_lines _)
    modes_lead (m ∷ es) e =
        let line = reply v (codes "324") (ch.name ∷ mode_params (m ∷ es)) in
        let shown = map shown_mode (m ∷ es) in
        let changed = changes_read v.settings (m ∷ es) (rw e at (modes_written v src k ch found)) in
        one_line (seen_with titled joined) line (Listed k shown) _
        (simp (told_of_mode_reply v.settings line refl, ok.key, changed)) (λ is. after_modes
        _ is.sets is.sound.known k shown titled (grind look_ups) ch.modes (λ letter. sym (rw e at
        (modes_listed ch.modes letter))) ∙ channel_changed v cs k titled moded (λ n. refl) joined)

    -- ---- members

    -- what a name list leaves of the facts
    facts_then : (n : Text) → is_seen (fin.insert cs k seen_here) n ≡ true
        → listed_person v (seen_with moded joined) ch.members n ≡ first n
    facts_then n seen =
        let ds = fin.insert cs k moded in
        let at = seen_somewhere (fin.insert cs k seen_here) n seen in
        let already : fin.get ch.members n ≡ None → is_seen ds n ≡ true =
        λ none. seen_in ds at.0 n (grind (look_ups, at.1, seen_read n, none)) in
        let seen_us : is_seen ds us ≡ true = seen_in ds k us (grind look_ups) in
        let spelled = ok.spelled n in
        grind (arith, get_read ds joined n, already, seen_us, is_same n us, here, spelled)

    members_lead : Leads (seen_with moded joined) (listing_lines v caps ch)
        (seen_with seen_here first)
    members_lead =
        let ds = fin.insert cs k moded in
        let w = read_view v ds joined in leading_to (listing_read w refl moded.members
        (grind look_ups) (λ n h. grind (look_ups, fin.get-empty, here))) (λ is.
        ap (λ cs. read_view v cs (listed_person v w ch.members)) (put_twice cs k moded seen_here)
        ∙ facts_alike v (fin.insert cs k seen_here) _ first facts_then)

  pub channel_read : (cs : fin.FinMap bytes_cmp Channel) → Leads (read_view v cs first)
      (channel_lines v caps ch) (read_view v (fin.insert cs k seen_here) first)
  channel_read cs =
      and_then (join_line v caps ch ∷ []) _ (join_leads cs) (and_then (topic_lines v ch) _
      (topic_leads cs ch.topic ok.topic) (and_then (mode_lines v ch (fin.entries ch.modes))
      (listing_lines v caps ch) (modes_lead cs (fin.entries ch.modes) refl) (members_lead cs)))
