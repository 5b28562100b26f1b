-- The playback has each entry once, in order.
pub mod Grouping
unfoldable pub use Grouping.*
use Rattle.welcome.proofs.Stamps.{stamped_nil}
use Rattle.welcome.specs.Playing.{is_visiting}
use Rattle.welcome.specs.Times.{stamped}

-- ---- what the lines say

module _ (caps : Caps) where
  pub entries_told : (tags : List Text) (es : List EntryParts) → Each IsMessage es
      → messages_in (map (entry_line caps tags) es) ≡ map bare_line es
  entries_told tags [] m = refl
  entries_told tags (e ∷ es) m = simp (m.0, entries_told tags es m.1)

  pub backlog_told : (place : ℕ) (name : Text) (es : List EntryParts) → Each IsMessage es
      → messages_in (backlog_of caps place name es) ≡ map bare_line es
  backlog_told place name [] m = refl
  backlog_told place name (e ∷ es) m =
      grind (arith, λ (tags : List Text). entries_told tags (e ∷ es) m, filter-append, append-nil)

-- two tests one after the other
twice : (p q r : EntryParts → Bool) → ((e : EntryParts) → (q e && p e) ≡ r e)
    → (es : List EntryParts) → filter p (filter q es) ≡ filter r es
twice p q r same [] = refl
twice p q r same (e ∷ es) = grind (arith, same e, twice p q r same es)

-- of a lesser key none is for any of these
not_later : (k : Text) (cs : List (Text × Channel)) → below_all bytes_cmp k cs ≡ true
    → list_any (same k) (keys_in cs) ≡ false
not_later k [] below = refl
not_later k (c ∷ cs) below = grind (arith, not_later k cs)

either_way : {X : Type 0} (b : Bool) (x : X) → cond b x x ≡ x
either_way true x = refl
either_way false x = refl

module _ (v : View) where
  -- the messages of channels
  abbrev pub messages_of : List EntryParts → List (Text × Channel) → List EntryParts
  messages_of es cs = flat_map (λ (c : Text × Channel). filter (is_for v c.0) es) cs

  pub channels_told : (caps : Caps) (es : List EntryParts) (cs : List (Text × Channel)) (n : ℕ)
      → Each IsMessage es → messages_in (flat_map (λ (at : ℕ × (Text × Channel)).
      backlog_of caps at.0 at.1.1.name (filter (is_for v at.1.0) es)) (enumerate_from n cs))
      ≡ map bare_line (messages_of es cs)
  channels_told caps es [] n m = refl
  channels_told caps es (c ∷ cs) n m =
      let told = backlog_told caps n c.1.name _ (each_kept _ (is_for v c.0) es m) in
      simp (filter-append, map-append, told, channels_told caps es cs (n + 1) m)

  pub playback_told : (caps : Caps) (es : List EntryParts) → Each IsMessage es
      → messages_in (playback_of v caps es) ≡ map bare_line (played_of v es)
  unfolding playback_of
  playback_told caps es m =
      let rest = entries_told caps [] _ (each_kept _ (λ e. not (is_for_a_channel v e)) es m) in
      simp (filter-append, map-append, channels_told caps es (fin.entries v.channels) 0 m, rest)

  -- ---- each once

  -- whether an entry is for one of these channels
  abbrev is_for_any : List (Text × Channel) → EntryParts → Bool
  is_for_any cs e = list_any (same (key_in v e)) (keys_in cs)

  of_channels : (es : List EntryParts) (cs : List (Text × Channel)) → fin.is_sorted bytes_cmp cs
      ≡ true → IsPermutation (filter (is_for_any cs) es) (messages_of es cs)
  of_channels [] [] sorted = IsPermutation-refl []
  of_channels (e ∷ es) [] sorted = of_channels es [] sorted
  of_channels es (c ∷ cs) sorted =
      let mine : EntryParts → Bool = is_for v c.0 in
      let both : EntryParts → Bool = λ e. mine e || is_for_any cs e in
      let here = twice mine both mine (λ e. grind arith) es in
      let rest = twice (λ e. not (mine e)) both (is_for_any cs)
      (λ e. grind (arith, is_same (key_in v e) c.0, not_later c.0 cs (grind arith))) es in
      IsPermutation-trans (filter both es) _ _ (rw (here, rest) at
      (IsPermutation-filter_both mine (λ e. not (mine e)) (λ e. refl) (filter both es)))
      (IsPermutation-append_right (filter mine es) _ _ (of_channels es cs (grind arith)))

  pub played_once : (es : List EntryParts) → IsPermutation es (played_of v es)
  played_once es =
      let any : EntryParts → Bool = is_for_any (fin.entries v.channels) in
      let rest : filter (λ e. not (any e)) es ≡ left_over v es = filter_agree _ _
      (λ e. ap not (sym (fin.contains_key-keys v.channels (key_in v e)))) es in
      let parts = IsPermutation-filter_both any (λ e. not (any e)) (λ e. refl) es in
      IsPermutation-trans es _ _ (rw rest at parts) (IsPermutation-append_left (left_over v es) _ _
      (of_channels es (fin.entries v.channels) (grind (arith, fin.entries_sorted v.channels))))

  -- ---- in order

  -- those of a channel that are for a key
  both_for : (k c : Text) (es : List EntryParts) → filter (is_for v k) (filter (is_for v c) es)
      ≡ cond (same k c) (filter (is_for v k) es) []
  both_for k c [] = grind arith
  both_for k c (e ∷ es) =
      grind (arith, is_same (key_in v e), is_same k c, same_refl k, both_for k c es)

  channels_in_order : (k : Text) (es : List EntryParts) (cs : List (Text × Channel))
      → fin.is_sorted bytes_cmp cs ≡ true → filter (is_for v k) (messages_of es cs)
      ≡ cond (list_any (same k) (keys_in cs)) (filter (is_for v k) es) []
  channels_in_order k es [] sorted = refl
  channels_in_order k es (c ∷ cs) sorted =
      let rest = channels_in_order k es cs (grind arith) in
      let below = not_later c.0 cs (grind arith) in
      simp filter-append (grind (arith, both_for k c.0 es, rest, is_same k c.0, below, append-nil))

  -- those of no channel that are for a key
  rest_in_order : (k : Text) (es : List EntryParts) → filter (is_for v k) (left_over v es)
      ≡ cond (fin.contains_key v.channels k) [] (filter (is_for v k) es)
  rest_in_order k [] = grind arith
  rest_in_order k (e ∷ es) = grind (arith, is_same (key_in v e) k, rest_in_order k es)

  pub played_in_order : (es : List EntryParts) (k : Text)
      → filter (is_for v k) (played_of v es) ≡ filter (is_for v k) es
  played_in_order es k =
      let sorted = fin.entries_sorted v.channels in
      let on = channels_in_order k es (fin.entries v.channels) (grind (arith, sorted)) in
      let keyed = fin.contains_key-keys v.channels k in
      simp filter-append (grind (arith, on, rest_in_order k es, keyed, append-nil))

  -- ---- the others in order

  abbrev other : EntryParts → Bool
  other e = not (is_for_a_channel v e)

  none_other : (c : Text) → fin.contains_key v.channels c ≡ true → (es : List EntryParts)
      → filter other (filter (is_for v c) es) ≡ []
  none_other c here [] = refl
  none_other c here (e ∷ es) = grind (arith, is_same (key_in v e) c, here, none_other c here es)

  none_of_channels : (es : List EntryParts) (cs : List (Text × Channel))
      → AllByRecursion (λ (c : Text × Channel). fin.contains_key v.channels c.0 ≡ true) cs
      → filter other (messages_of es cs) ≡ []
  none_of_channels es [] all = refl
  none_of_channels es (c ∷ cs) all =
      simp (filter-append, none_other c.0 all.0 es, none_of_channels es cs all.1)

  pub others_in_order : (es : List EntryParts) → filter (λ e. not (is_for_a_channel v e))
      (played_of v es) ≡ filter (λ e. not (is_for_a_channel v e)) es
  others_in_order es =
      let there = entries_got
      (λ c. fin.contains_key v.channels c.0 ≡ true) v.channels (λ e. ap is_some) in
      let none = none_of_channels es (fin.entries v.channels) there in
      simp (filter-append, none, twice other other other (λ e. grind arith) es)

  -- if nothing was missed, the burst is the state part
  pub nothing_missed : (playing : Playing) (caps : Caps)
      → burst_by playing v caps [] ≡ state_part_of v caps
  unfolding playback_by
  nothing_missed playing caps =
      let nil = stamped_nil playing.times caps in
      let none : others_lines playing v caps (length (fin.entries v.channels)) [] ≡ [] =
      rw nil (ap (cond (is_private playing caps) []) (either_way (is_visiting playing v) [])
      ∙ either_way (is_private playing caps) []) in
      let said : ℕ × (Text × Channel) → List Parts = λ at. backlog_of caps at.0 at.1.1.name
      (stamped playing.times caps []) in
      let untimed = λ (at : ℕ × (Text × Channel)). ap (λ es. backlog_of caps at.0 at.1.1.name es) nil in
      simp (none, untold said (enumerate_from 0 (fin.entries v.channels)) untimed, append-nil)

-- the playback of no profile is that of the whole one
pub whole_played : (playing : Playing) (v : View) (caps : Caps) (entries : List EntryParts)
    → playing ≡ playing_whole → playback_by playing v caps entries ≡ playback_of v caps entries
unfolding playback_by playback_of
whole_played playing v caps entries e = rw e refl

-- a list that is said to be empty
pub empty_list : {A : Type 0} (xs : List A) → true ≡ (length xs == 0) → xs ≡ []
empty_list xs e = nil_from_length xs (grind (arith, nat_tests, e))

-- the laws of the playback
pub ruleset playback_laws = (played_once, playback_told, played_in_order, others_in_order)
