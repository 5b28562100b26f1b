-- Entries are put into groups by their keys, each group where its first entry is.
use Rattle.std.proofs.Common.{subst, zero}
use Rattle.std.proofs.lemmas.{List.Sums.fold_push, Map.Text.is_eq-slice_cmp}
use Rattle.std.specs.Str.{bytes_eq}
use Rattle.indexmap.specs.IndexSet.{insert_key}
use Rattle.std.proofs.Common.{Vec}
use Rattle.welcome.proofs.PlaybackWhole.{all_now, pushed}
use Rattle.welcome.proofs.Words
use Rattle.std.proofs.lemmas.List.{map_more}
use Words.{◌++◌, ◌+◌, ◌<◌, ◌||◌, ◌∙◌, ◌∷◌, ◌≡◌, ◌≤◌, AllByRecursion, Bool, EntryParts, List, Text, [], ap, append-nil, arith}
use Words.{append_assoc, cond, false, filter, filter-append, fold, is_same, length, length-append, length-map, list_any}
use Rattle.welcome.specs.declared.others.Sort.{Sort}
use Rattle.welcome.specs.Playing.{around, can_name, group_lines, name_by}
use Words.{Bor, Caps, None, Option, Parts, Some, View, backlog_of, entry_line, flat_map, slice_get, written, map, map-append, map-map, nat_tests, take_all, position_or_len, refl, same, same_refl, slice_index_or, suc, sym, true, ℕ}
use Rattle.welcome.specs.{Arranged.{push_at, put_at}, Playing.{firsts, groups_by}}
use Rattle.welcome.proofs.Stamps.{stamped_nil}
use Rattle.welcome.specs.Times.{stamped, stamped_entry, stamped_from}
unfoldable use Rattle.welcome.specs.Times.{shown_at}
use Rattle.welcome.specs.declared.others.Sort.TheVariants.{Channels, Persons, Visits}
use Rattle.welcome.specs.declared.playing.Offset.{Offset}
use Rattle.welcome.specs.declared.times.Day.{Day}
use Rattle.welcome.specs.declared.times.Minute.{Minute}

-- ---- one more in a group

-- after the last group it begins one
pub put_last : {X : Type 0} (place : ℕ) (x : X) (gs : List (List X)) → length gs ≤ place
    → put_at place x gs ≡ gs ++ (x ∷ []) ∷ []
put_last place x [] behind = refl
put_last zero x (g ∷ gs) behind = absurd (omega arith)
put_last (suc place) x (g ∷ gs) behind =
    ap (λ rest. g ∷ rest) (put_last place x gs (omega (behind, arith)))

-- before it, it is in the group that is there
pub put_within : {X : Type 0} (place : ℕ) (x : X) (gs : List (List X)) → place < length gs
    → put_at place x gs ≡ push_at place x gs
put_within place x [] within = absurd (omega arith)
put_within zero x (g ∷ gs) within = refl
put_within (suc place) x (g ∷ gs) within =
    ap (λ rest. g ∷ rest) (put_within place x gs (omega (within, arith)))

-- an entry more, in a group that is there or a new one
pub ruleset put_steps = (pushed, put_last, put_within, length-map, map-append, nat_tests)

-- ---- keys and groups

no_symmetry : (a b : Text) → same a b ≡ false → same b a ≡ false
no_symmetry a b e = by (same b a) refl where
  by : (t : Bool) → same b a ≡ t → same b a ≡ false
  by true h = grind (arith, is_same b a h, same_refl, e)
  by false h = h

-- no key occurs twice
abbrev pub AreDistinct : List Text → Type 0
AreDistinct [] = Unit {0}
AreDistinct (k ∷ ks) = (list_any (same k) ks ≡ false) × AreDistinct ks

any_more : (p : Text → Bool) (ks : List Text) (k : Text)
    → list_any p (ks ++ k ∷ []) ≡ (list_any p ks || p k)
any_more p [] k = grind arith
any_more p (c ∷ ks) k = grind (arith, any_more p ks k)

distinct_more : (ks : List Text) (k : Text) → AreDistinct ks → list_any (same k) ks ≡ false
    → AreDistinct (ks ++ k ∷ [])
distinct_more [] k d none = (refl, tt)
distinct_more (c ∷ ks) k d none =
    let apart : same k c ≡ false = grind arith in
    let rest : list_any (same k) ks ≡ false = grind arith in
    (grind (arith, any_more (same c) ks k, no_symmetry k c apart, d.0), distinct_more ks k d.1 rest)

module _ (key : EntryParts → Text) where
  -- the keys with that of one more
  abbrev pub with_key : List Text → Text → List Text
  with_key ks k = cond (list_any (same k) ks) ks (ks ++ k ∷ [])

  abbrev pub of_key : Text → EntryParts → Bool
  of_key k e = same (key e) k

  abbrev in_groups : List Text → List EntryParts → List (List EntryParts)
  in_groups ks es = map (λ k. filter (of_key k) es) ks

  -- of another key it is in none of these groups
  elsewhere : (ks : List Text) (es : List EntryParts) (e : EntryParts)
      → list_any (same (key e)) ks ≡ false → in_groups ks (es ++ e ∷ []) ≡ in_groups ks es
  elsewhere [] es e none = refl
  elsewhere (k ∷ ks) es e none =
      grind (arith, filter-append (of_key k) es (e ∷ []), append-nil, elsewhere ks es e)

  put_one : (ks : List Text) (es : List EntryParts) (e : EntryParts) → AreDistinct ks
      → (list_any (same (key e)) ks ≡ false → filter (of_key (key e)) es ≡ [])
      → in_groups (with_key ks (key e)) (es ++ e ∷ [])
      ≡ put_at (position_or_len (same (key e)) ks) e (in_groups ks es)
  put_one [] es e d fresh =
      grind (arith, filter-append (of_key (key e)) es (e ∷ []), fresh refl, same_refl (key e))
  put_one (k ∷ ks) es e d fresh =
      by (same (key e) k) refl (λ apart. put_one ks es e d.1
      (λ none. fresh (grind (arith, apart, none)))) where
        by : (t : Bool) → same (key e) k ≡ t
            → (same (key e) k ≡ false → in_groups (with_key ks (key e)) (es ++ e ∷ [])
            ≡ put_at (position_or_len (same (key e)) ks) e (in_groups ks es))
            → in_groups (with_key (k ∷ ks) (key e)) (es ++ e ∷ [])
            ≡ put_at (position_or_len (same (key e)) (k ∷ ks)) e (in_groups (k ∷ ks) es)
        by true h more =
            let is = is_same (key e) k h in
            let none : list_any (same (key e)) ks ≡ false = rw is d.0 in
            grind (arith, h, filter-append (of_key k) es (e ∷ []), elsewhere ks es e none)
        by false h more =
            grind (arith, h, filter-append (of_key k) es (e ∷ []), append-nil, more h)

  -- ---- one entry after the other

  pub firsts_more : (es : List EntryParts) (e : EntryParts)
      → firsts key (es ++ e ∷ []) ≡ with_key (firsts key es) (key e)
  firsts_more es e =
      fold_push (λ keys (e : EntryParts). cond (list_any (same (key e)) keys) keys
      (keys ++ key e ∷ [])) [] es e

  -- each entry has its key among them
  abbrev pub HasKeys : List Text → List EntryParts → Type 0
  HasKeys ks es = AllByRecursion (λ e. list_any (same (key e)) ks ≡ true) es

  any_there : (p : Text → Bool) (ks : List Text) (k : Text) → list_any p ks ≡ true
      → list_any p (with_key ks k) ≡ true
  any_there p ks k h = grind (arith, any_more p ks k)

  here : (ks : List Text) (k : Text) → list_any (same k) (with_key ks k) ≡ true
  here ks k = by (list_any (same k) ks) refl where
    by : (t : Bool) → list_any (same k) ks ≡ t → list_any (same k) (with_key ks k) ≡ true
    by true h = rw h h
    by false h = grind (arith, h, any_more (same k) ks k, same_refl k)

  keys_stay : (ks : List Text) (k : Text) (es : List EntryParts) → HasKeys ks es
      → HasKeys (with_key ks k) es
  keys_stay ks k [] h = tt
  keys_stay ks k (e ∷ es) h = (any_there (same (key e)) ks k h.0, keys_stay ks k es h.1)

  keys_more : (ks : List Text) (es : List EntryParts) (e : EntryParts) → HasKeys ks es
      → HasKeys (with_key ks (key e)) (es ++ e ∷ [])
  keys_more ks [] e h = (here ks (key e), tt)
  keys_more ks (d ∷ es) e h = (any_there (same (key d)) ks (key e) h.0, keys_more ks es e h.1)

  -- none has a key that is none of them
  none_has : (ks : List Text) (k : Text) (es : List EntryParts) → list_any (same k) ks ≡ false
      → HasKeys ks es → filter (of_key k) es ≡ []
  none_has ks k [] none h = refl
  none_has ks k (e ∷ es) none h =
      grind (arith, is_same (key e) k, h.0, none, none_has ks k es none h.1)

  pub record Keyed (es : List EntryParts) : Type 0 where
    pub distinct : AreDistinct (firsts key es)
    pub have : HasKeys (firsts key es) es

  distinct_with : (ks : List Text) (k : Text) → AreDistinct ks → AreDistinct (with_key ks k)
  distinct_with ks k d = by (list_any (same k) ks) refl where
    by : (t : Bool) → list_any (same k) ks ≡ t → AreDistinct (with_key ks k)
    by true h = rw h d
    by false h = rw h (distinct_more ks k d h)

  keyed_more : (es : List EntryParts) (e : EntryParts) → Keyed es → Keyed (es ++ e ∷ [])
  keyed_more es e k = record {
    distinct = rw (firsts_more es e) (distinct_with (firsts key es) (key e) k.distinct);
    have = rw (firsts_more es e) (keys_more (firsts key es) es e k.have);
  }

  keyed_from : (done es : List EntryParts) → Keyed done → Keyed (done ++ es)
  keyed_from done [] k = rw (append-nil done) k
  keyed_from done (e ∷ es) k =
      rw append_assoc at (keyed_from (done ++ e ∷ []) es (keyed_more done e k))

  pub keyed : (es : List EntryParts) → Keyed es
  keyed es = keyed_from [] es (record { distinct = tt; have = tt })

  pub groups_more : (es : List EntryParts) (e : EntryParts) → groups_by key (es ++ e ∷ [])
      ≡ put_at (position_or_len (same (key e)) (firsts key es)) e (groups_by key es)
  groups_more es e =
      let k = keyed es in
      rw (firsts_more es e) (put_one (firsts key es) es e k.distinct
      (λ none. none_has (firsts key es) (key e) es none k.have))

-- ---- keys that are owned

module _ {A : Type 0} where
  -- the texts of keys
  abbrev pub texts : List (Vec ℕ A) → List Text
  texts keys = map (λ k. k.items) keys

  place_owned : (y : Vec ℕ A) (k : Text) (keys : List (Vec ℕ A)) → y.items ≡ k
      → position_or_len (λ (z : Vec ℕ A). bytes_eq y.items z.items) keys
      ≡ position_or_len (same k) (texts keys)
  place_owned y k [] e = refl
  place_owned y k (z ∷ keys) e =
      grind (arith, e, is_eq-slice_cmp y.items z.items, place_owned y k keys e)

  any_owned : (y : Vec ℕ A) (k : Text) (keys : List (Vec ℕ A)) → y.items ≡ k
      → list_any (λ (z : Vec ℕ A). bytes_eq y.items z.items) keys ≡ list_any (same k) (texts keys)
  any_owned y k [] e = refl
  any_owned y k (z ∷ keys) e =
      grind (arith, e, is_eq-slice_cmp y.items z.items, any_owned y k keys e)

  -- one more entry: its key, and its place
  module _ (key : EntryParts → Text) (es : List EntryParts) (e : EntryParts) (keys new : List
      (Vec ℕ A)) (y : Vec ℕ A) (is : texts keys ≡ firsts key es) (spelled : y.items ≡ key e) where
    pub keys_next : new
        ≡ insert_key (λ (a b : Vec ℕ A). bytes_eq a.items b.items) keys y
        → texts new ≡ firsts key (es ++ e ∷ [])
    keys_next n =
        let any = any_owned y (key e) keys spelled in
        let more = firsts_more key es e in
        by (list_any (same (key e)) (texts keys)) refl any more where
          by : (t : Bool) → list_any (same (key e)) (texts keys) ≡ t
              → list_any (λ (z : Vec ℕ A). bytes_eq y.items z.items) keys
              ≡ list_any (same (key e)) (texts keys)
              → firsts key (es ++ e ∷ []) ≡ with_key key (firsts key es) (key e)
              → texts new ≡ firsts key (es ++ e ∷ [])
          by true h any more = grind (arith, n, h, any, more, is)
          by false h any more = grind (arith, n, h, any, more, is, spelled, map-append)

    pub groups_next : (place : ℕ) (groups next : List (List EntryParts))
        → place ≡ position_or_len (λ (z : Vec ℕ A). bytes_eq y.items z.items) keys
        → groups ≡ groups_by key es → next ≡ put_at place e groups
        → next ≡ groups_by key (es ++ e ∷ [])
    groups_next place groups next p g n =
        let at = place_owned y (key e) keys spelled in
        rw (n, g, p, at, is) (sym (groups_more key es e))

-- ---- the entries that are chosen

pub ruleset chosen_steps = (filter-append, map_more, take_all, append-nil, map-append)

-- ---- the lines of a group

-- by a name
abbrev pub named_lines : Sort → View → Caps → ℕ → Text → List EntryParts → List Parts
named_lines sort v caps place name es =
    cond (can_name name) (around sort v caps name (backlog_of caps place name es))
    (map (entry_line caps []) es)

-- with its time in its text an entry has the name that it has
name_kept : (sort : Sort) (v : View) (before : Option Day) (at : Option Minute) (e : EntryParts)
    → name_by sort v (stamped_entry before at e) ≡ name_by sort v e
name_kept sort v before None e = refl
name_kept Channels v before (Some at) e = refl
name_kept Persons v before (Some at) e = refl
name_kept Visits v before (Some at) e = refl

group_named : (sort : Sort) (v : View) (caps : Caps) (place : ℕ) (times : Option Offset)
    (e : EntryParts) (es : List EntryParts) → group_lines sort v caps place
    (stamped times caps (e ∷ es)) ≡ named_lines sort v caps place (name_by sort v e) (stamped times caps (e ∷ es))
group_named sort v caps place None e es = refl
group_named sort v caps place (Some offset) e es = by caps.server_time where
  by : (b : Bool) → group_lines sort v caps place (cond b (e ∷ es) (stamped_from offset None (e ∷ es)))
      ≡ named_lines sort v caps place (name_by sort v e) (cond b (e ∷ es) (stamped_from offset None (e ∷ es)))
  by true = refl
  by false =
      ap (λ name. named_lines sort v caps place name (stamped_from offset None (e ∷ es)))
      (name_kept sort v None (shown_at offset e.time) e)

module _ (sort : Sort) (v : View) (times : Option Offset) (caps : Caps) (place : ℕ) where
  pub no_group : (group : List (Bor EntryParts)) → None ≡ slice_get group 0
      → group_lines sort v caps place (stamped times caps (all_now group)) ≡ []
  no_group [] h = ap (λ es. group_lines sort v caps place es) (stamped_nil times caps)
  no_group (e ∷ group) h = cc

  module _ (group : List (Bor EntryParts)) (first : Bor EntryParts) (name old now : Text) where
    -- the name of the first is that of the group
    by_name : Some first ≡ slice_get group 0 → name ≡ name_by sort v first.now
        → named_lines sort v caps place name (stamped times caps (all_now group))
        ≡ group_lines sort v caps place (stamped times caps (all_now group))
    by_name at named = by group at where
      by : (es : List (Bor EntryParts)) → Some first ≡ slice_get es 0
          → named_lines sort v caps place name (stamped times caps (all_now es))
          ≡ group_lines sort v caps place (stamped times caps (all_now es))
      by [] at = cc
      by (e ∷ es) at =
          let is : first ≡ e = cc in
          let so : name ≡ name_by sort v e.now =
          named ∙ ap (λ (f : Bor EntryParts). name_by sort v f.now) is in
          ap (λ m. named_lines sort v caps place m (stamped times caps (all_now (e ∷ es)))) so
          ∙ sym (group_named sort v caps place times e.now (all_now es))

    pub group_in_batch : Some first ≡ slice_get group 0 → name ≡ name_by sort v first.now
        → can_name name ≡ true → now ≡ old ++ flat_map written (around sort v caps name
        (backlog_of caps place name (stamped times caps (all_now group)))) → now
        ≡ old ++ flat_map written (group_lines sort v caps place (stamped times caps (all_now group)))
    group_in_batch at named word said =
        let chosen : around sort v caps name
        (backlog_of caps place name (stamped times caps (all_now group)))
        ≡ named_lines sort v caps place name (stamped times caps (all_now group)) =
        ap (λ b. cond b (around sort v caps name
        (backlog_of caps place name (stamped times caps (all_now group))))
        (map (entry_line caps []) (stamped times caps (all_now group)))) (sym word) in
        subst (λ lines. now ≡ old ++ flat_map written lines) (chosen ∙ by_name at named) said

    pub group_plain : Some first ≡ slice_get group 0 → name ≡ name_by sort v first.now
        → can_name name ≡ false → now ≡ old ++ flat_map written
        (map (entry_line caps []) (stamped times caps (all_now group))) → now
        ≡ old ++ flat_map written (group_lines sort v caps place (stamped times caps (all_now group)))
    group_plain at named word said =
        let chosen : map (entry_line caps []) (stamped times caps (all_now group))
        ≡ named_lines sort v caps place name (stamped times caps (all_now group)) =
        ap (λ b. cond b (around sort v caps name
        (backlog_of caps place name (stamped times caps (all_now group))))
        (map (entry_line caps []) (stamped times caps (all_now group)))) (sym word) in
        subst (λ lines. now ≡ old ++ flat_map written lines) (chosen ∙ by_name at named) said
