-- What the burst says of the state, and name lists, can be written.
pub mod WrittenWords
unfoldable pub use WrittenWords.*

-- ---- lines that can be written: middles and, after them, a text

abbrev pub IsFit : Parts → Type 0
IsFit line = is_writable line ≡ true

-- a middle that can be written
abbrev pub IsMiddle : Text → Type 0
IsMiddle p = (is_word p && is_clean p) ≡ true

pub middle : (p : Text) → is_word p ≡ true → is_clean p ≡ true → IsMiddle p
middle p w c = rw w c

-- a text after middles
then_text : (middles : List Text) (text : Text) → Each IsMiddle middles → is_clean text ≡ true
    → are_params (middles ++ text ∷ []) ≡ true
then_text [] text each h = h
then_text (p ∷ []) text each h = rw each.0 h
then_text (p ∷ q ∷ middles) text each h = rw each.0 (then_text (q ∷ middles) text each.1 h)

-- middles alone
all_middles : (middles : List Text) → Each IsMiddle middles → are_params middles ≡ true
all_middles [] each = refl
all_middles (p ∷ []) each = and_second _ _ each.0
all_middles (p ∷ q ∷ middles) each = rw each.0 (all_middles (q ∷ middles) each.1)

-- lines of rows of words
rows_fit : (P : Text → Type 0) (fit : List Text → Bool) (line : List Text → Parts)
    → ((row : List Text) → Each P row → IsFit (line row)) → (words : List Text) → Each P words
    → Each IsFit (map line (rows_of fit words))
rows_fit P fit line one words each =
    mapped (Each P) IsFit line one (rows_of fit words)
    (each_row P (rows_of fit words) (rw (rows_all fit words) each))

-- a token of a line that can be written is a middle
token_middle : (t : Token) → IsGoodToken t → IsMiddle (token_text t)
token_middle (name, value) g = by_name name value g.name g.value where
  by_name : (name : Text) (value : Option Text) → IsGoodWord name
      → IfSome value (λ v. list_all is_good v ≡ true) → IsMiddle (token_text (name, value))
  by_name name None (good b text colon all) v = grind (arith, good_word b text colon all)
  by_name name (Some value) (good b text colon all) v =
      let all = good_joined (b ∷ text) (61 ∷ value) all v in
      grind (arith, good_word b (text ++ 61 ∷ value) colon all)

-- ---- the lines that give the state can be written

-- a view of lines that can be written
abbrev pub IsFromLines : View → Type 0
IsFromLines v = (items : List Arrival) × AreWritten items × (v ≡ view_of items)

module _ (v : View) (from : IsFromLines v) (caps : Caps) where
  pub sound : IsSound v
  sound = rw from.2 (view_sound from.0)

  pub clean : IsCleanView v
  clean = rw from.2 (views_are_clean from.0 from.1)

  tokens : AreGoodTokens v.settings
  unfolding view_of
  tokens = rw from.2 (tokens_good (reverse from.0) (turned from.0 from.1))

  source : v.ready ≡ true → IsSource v
  source ready = rw from.2 (source_of from.0 (rw from.2 at ready))

  pub name_middle : (k : Text) (ch : Channel) → fin.get v.channels k ≡ Some ch → IsMiddle ch.name
  name_middle k ch found =
      middle ch.name (channel_word v.settings ch.name (sound.channels k ch found).name)
      (clean.channels k ch found).name

  module _ (src : IsSource v) where
    own_middle : IsMiddle (unwrap_or v.own [])
    own_middle =
        let n = nick_written src.nick (sound.own src.nick src.own) in rw (src.own, n.1) n.2

    settings_fit : Each IsFit (settings_lines v)
    settings_fit =
        rows_fit IsMiddle is_token_row (λ row. reply v (codes "005") (row ++ codes
        "are supported by this server" ∷ [])) (λ row each. then_text (unwrap_or v.own [] ∷ row)
        (codes "are supported by this server") (own_middle, each) refl) (map token_text v.settings)
        (mapped IsGoodToken IsMiddle token_text token_middle v.settings tokens)

    module _ (k : Text) (ch : Channel) (found : fin.get v.channels k ≡ Some ch) where
      name : IsMiddle ch.name
      name = name_middle k ch found

      join_fit : IsFit (join_line v caps ch)
      join_fit =
          let own = option_and_then (account_shown v) v.own in
          let word = account_word None own tt (known_written v sound clean v.own) in
          rw (own_part v sound) (grind (arith, name, word))

      topic_fit : (o : Option Text) → ForSome o IsClean → Each IsFit
          (map (λ text. reply v (codes "332") (ch.name ∷ text ∷ [])) (option_to_list o))
      topic_fit o h = grind (arith, own_middle, name, h)

      -- a mode's letter is good, and its parameter a middle
      abbrev IsFitMode : ℕ × Option Text → Type 0
      IsFitMode m = (is_good m.0 ≡ true) × IfSome m.1 IsMiddle

      mode_parts : (ms : List (ℕ × Option Text)) → Each IsFitMode ms
          → (list_all is_good (map (λ (m : ℕ × Option Text). m.0) ms) ≡ true)
          × Each IsMiddle (filter_map (λ (m : ℕ × Option Text). m.1) ms)
      mode_parts [] each = (refl, tt)
      mode_parts (m ∷ ms) each = grind (arith, each.0, mode_parts ms each.1)

      mode_fit : (ms : List (ℕ × Option Text)) → Each IsFitMode ms → Each IsFit (mode_lines v ch ms)
      mode_fit [] each = tt
      mode_fit (m ∷ ms) each =
          let letters = map (λ (m : ℕ × Option Text). m.0) (m ∷ ms) in
          let parts = mode_parts (m ∷ ms) each in
          let good = good_word 43 letters refl parts.0 in
          let params = unwrap_or v.own [] ∷ ch.name ∷ mode_params (m ∷ ms) in
          let all : Each IsMiddle params =
          (own_middle, (name, (middle (43 ∷ letters) good.0 good.1, parts.1))) in
          (all_middles params all, tt)

      member_fit : (e : Text × List ℕ) → IsWrittenMember v e
          → IsClean (member_word v caps.multi_prefix e)
      member_fit e w =
          let s = symbols_of v.settings (ranks_shown caps.multi_prefix e.1) in
          clean_joined s (unwrap_or (known_at (λ p. p.spelled) v e.0) e.0)
          (symbols_clean v.settings s (symbols_all v.settings (ranks_shown caps.multi_prefix e.1)))
          (rw w.known (nick_written w.nick w.spells.nameable).2)

      names_fit : Each IsFit (names_lines v caps ch)
      names_fit =
          rows_fit IsClean is_short (name_row v ch.name) (λ row each. rw (own_middle, name)
          (joined_clean row each)) (map (member_word v caps.multi_prefix) (fin.entries ch.members))
          (mapped (IsWrittenMember v) IsClean _ member_fit _ (members_written v src k ch found))

      listing_fit : Each IsFit (listing_lines v caps ch)
      listing_fit =
          joined IsFit (names_lines v caps ch) (names_end v ch ∷ []) names_fit
          (rw (own_middle, name) refl, tt)

      channel_fit : Each IsFit (channel_lines v caps ch)
      channel_fit =
          let topic = topic_fit ch.topic (clean.channels k ch found).topic in
          let modes = mode_fit (fin.entries ch.modes) (letters_got IsFitMode ch.modes (λ e is.
          let kept = (sound.channels k ch found).modes e.0 e.1 is in
          let word = (clean.channels k ch found).modes e.0 e.1 is in
          (letter_good v.settings tokens e.0 e.1 kept, grind (arith, same_words, kept, word)))) in
          (join_fit, search (joined IsFit, topic, modes, listing_fit))

  -- who is spelled can be a source
  spelled : (n : Text) (p : Person) → fin.get v.people n ≡ Some p → is_part p.spelled ≡ true
  spelled n p found = grind (arith, (sound.people n p found).spelled, nick_written)

  pub state_written : v.ready ≡ true → AreLines (state_part_of v caps)
  unfolding state_part_of
  state_written ready =
      let src = source ready in
      let greeting : Each IsFit (greeting_of v) = rw (own_middle src) assumption in
      let end : IsFit (no_motd v) = rw (own_middle src) refl in
      let channels = each_entry IsFit v.channels (channel_lines v caps) (channel_fit src) in
      let people = each_entry IsFit v.people (person_lines caps)
      (λ n p at. grind (arith, spelled n p, clean.accounts n, clean.aways n, at)) in
      let rest = joined IsFit _ _ channels people in joined IsFit
      (greeting_of v) _ greeting (joined IsFit (settings_lines v) _ (settings_fit src) (end, rest))

  -- all lines of the catch-up, after a line that can be written
  pub catchup_written : (ack : Parts) → IsFit ack → AreLines (ack ∷ catchup_of v caps)
  unfolding catchup_of
  catchup_written ack can =
      let lists = each_entry IsFit v.channels (listing_lines v caps)
      (λ k ch at. listing_fit (source (sound.channels k ch at).ready) k ch at) in
      let people = each_entry IsFit v.people (fact_lines caps)
      (λ n p at. grind (arith, spelled n p, clean.accounts n, clean.aways n, at)) in
      let rest = joined IsFit _ _ lists people in (can, rest)
