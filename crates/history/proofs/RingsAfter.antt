-- The rings after one message more.
use Rattle.history.proofs.Words
use Words.{◌++◌, ◌<◌, ◌∷◌, ◌≡◌, ◌≤◌, List, None, Option, Some, [], all_taken, ap, append-nil, arith}
use Words.{bytes_eq, cond, false, filter, filter-append, is_to, keep_last, length, length-map}
use Words.{list_any-append, looking_back, map, nat_lt, nat_tests, not, noted, numbers_to}
use Words.{oldest_gone, option_map, option_map_or, refl, remove_entry, reverse, ring_gone, rings_of}
use Words.{slice_get, slice_get-map, stays, suc, sym, take, take-append-le, take-map, take_all}
use Words.{taken, targets, true, unwrap_or, ℕ}
use Rattle.history.proofs.{Keys.{has, once, same_key, without}, OneMore.{Rises, absent, all_out}}
use Rattle.history.proofs.OneMore.{all_stay, drop_first, first_out, lookup-made, one_goes}
use Rattle.history.proofs.OneMore.{other_key, remove-made, same_made, trimmed, trimmed_absent}
use Rattle.history.proofs.{OneMore.without-absent, Rings.{at_end, forget_targets, has_out}}
use Rattle.history.proofs.Rings.{last_once, none_out, not_out, one_out, others_left, others_trimmed}
use Rattle.history.proofs.Rings.{parted, rings-more, to_trimmed, trim_targets}
use Rattle.{irc_line.proofs.Logic.cases_Bool, std.proofs.Common.{drop, inl, inr}}
use Rattle.std.proofs.lemmas.Option.{slice_get_past}

module _ {E : Type 0} (key : ℕ × E → List ℕ) (p n : ℕ) (ms : List (ℕ × E)) (m : ℕ × E)
    (some : nat_lt 0 n ≡ true) (rise : Rises ms)
    (few : length (targets key (reverse ms)) ≤ suc p)
    (each : (k : List ℕ) → length (filter (is_to key k) ms) ≤ n) where
  abbrev there : List (List ℕ)
  there = targets key (reverse ms)

  abbrev kept_now : List (ℕ × E)
  kept_now = looking_back key (stays key (suc p) n) (ms ++ m ∷ [])

  abbrev left : Option ℕ → Option (List ℕ) → List (ℕ × E)
  left oldest ring =
      all_taken (unwrap_or ring [])
      (option_map_or (λ j. taken j (ms ++ m ∷ [])) oldest (ms ++ m ∷ []))

  -- what is to be shown of what went
  abbrev Right : Option ℕ → Option (List ℕ) → List (List ℕ × List ℕ) → Type 0
  Right oldest ring rings = (left oldest ring ≡ kept_now) × (rings ≡ rings_of key kept_now)

  abbrev y : List ℕ
  y = key m

  abbrev old : List ℕ
  old = numbers_to key ms y

  abbrev now : List (List ℕ × List ℕ)
  now = rings_of key ms

  abbrev ring : List ℕ → List ℕ × List ℕ
  ring k = (k, numbers_to key ms k)

  -- ---- a target that is there

  old_long : length old ≡ length (filter (is_to key y) ms)
  old_long = length-map (filter (is_to key y) ms) (λ m. m.0)

  now_else : remove_entry (bytes_eq y) now ≡ map ring (without y there)
  now_else = remove-made (numbers_to key ms) y there (once key y (reverse ms))

  stay_known : has y there ≡ true → kept_now ≡ trimmed key n y ms ++ m ∷ []
  stay_known t =
      all_stay key (suc p) n m some (grind (arith, nat_tests)) ms (grind (arith, has_out y there t))
      each

  known_room : has y there ≡ true → nat_lt (length old) n ≡ true
      → Right None None ((y, keep_last n (old ++ m.0 ∷ [])) ∷ remove_entry (bytes_eq y) now)
  known_room t lt =
      let is : kept_now ≡ ms ++ m ∷ [] = grind (arith, stay_known t, old_long, lt) in
      let all : length old < n = grind (arith, nat_tests, lt) in
      rw is (refl, rw (none_out n m.0 old all, now_else, rings-more key ms m) refl)

  first_drops : (l : List (ℕ × E)) → map (λ m. m.0) (drop 1 l) ≡ drop 1 (map (λ m. m.0) l)
  first_drops [] = refl
  first_drops (a ∷ l) = refl

  some_first : (l : List ℕ) → slice_get l 0 ≡ None → length l ≡ 0
  some_first [] e = refl
  some_first (j ∷ l) e = absurd cc

  known_full : has y there ≡ true → nat_lt (length old) n ≡ false → (o : Option ℕ) → slice_get old 0
      ≡ o → Right o None ((y, keep_last n (old ++ m.0 ∷ [])) ∷ remove_entry (bytes_eq y) now)
  known_full t ge None e = absurd (grind (arith, nat_tests, some_first old e, ge, some))
  known_full t ge (Some j) e =
      let trim = drop_first (is_to key y) ms in
      let full : (length old ≡ n) × (0 < n) =
      grind (arith, nat_tests, ge, each y, old_long, some) in
      let is : kept_now ≡ trim ++ m ∷ [] = grind (arith, stay_known t, old_long, ge) in
      let first : numbers_to key trim y ≡ drop 1 old =
      rw (to_trimmed key y ms) (first_drops (filter (is_to key y) ms)) in
      let others = same_made (numbers_to key trim) (numbers_to key ms) (without y there)
      (λ k is. rw (others_trimmed key y k (not_out y k there is) ms)) in
      let out = one_out n m.0 old full.0 full.1 in
      rw is (
        first_out key y m ms j rise e,
        rw (out, now_else, rings-more key trim m, trim_targets key y ms, others, first) refl,
      )

  known : has y there ≡ true
      → Right (cond (nat_lt (length old) n) None (slice_get old 0)) None
      ((y, keep_last n (old ++ m.0 ∷ [])) ∷ remove_entry (bytes_eq y) now)
  known t = elim (cases_Bool (nat_lt (length old) n)) [
    | inl lt ↦ rw lt (known_room t lt)
    | inr ge ↦ rw ge (known_full t ge (slice_get old 0) refl)
  ]

  -- ---- a new one

  new_first : has y there ≡ false → numbers_to key ms y ≡ []
  new_first gone = rw (absent key y ms gone).0

  new_room : has y there ≡ false → length there ≤ p
      → Right None (option_map (λ r. r.1) (slice_get now p)) ((y, m.0 ∷ []) ∷ take p now)
  new_room gone le =
      let same = without-absent y there gone in
      let is : kept_now ≡ ms ++ m ∷ [] =
      rw (trimmed_absent key n y ms some gone) at
      (all_stay key (suc p) n m some (grind (arith, nat_tests)) ms (grind (arith, same)) each) in
      let all : length now ≤ p = grind (arith, length-map there ring) in
      let rings = rings-more key ms m in
      rw (is, slice_get_past now p all, take_all p now all, rings, same, new_first gone) (refl, refl)

  new_full : has y there ≡ false → (ts : List (List ℕ)) (z : List ℕ) → there ≡ ts ++ z ∷ []
      → length ts ≡ p
      → Right None (option_map (λ r. r.1) (slice_get now p)) ((y, m.0 ∷ []) ∷ take p now)
  new_full gone ts z is len =
      let rest = filter (λ a. not (is_to key z a)) ms in
      let apart : has z ts ≡ false = last_once z ts (rw (← is) (once key z (reverse ms))) in
      let kept = one_goes key (suc p) n m ts z some (ap suc (sym len)) ms is gone apart each in
      let last : slice_get now p ≡ Some (ring z) =
      grind (arith, slice_get-map ring there p, at_end p ts z len) in
      let front : take p there ≡ ts = grind (arith, take-append-le p ts, take_all p ts) in
      let y_out : (has y ts ≡ false) × (bytes_eq y z ≡ false) =
      grind (arith, gone, is, list_any-append (bytes_eq y) ts) in
      let cut = filter-append (λ x. not (bytes_eq z x)) ts (z ∷ []) in
      let out : without z (ts ++ z ∷ []) ≡ ts =
      grind (arith, cut, without-absent z ts apart, same_key z, append-nil ts) in
      let over : without y (targets key (reverse rest)) ≡ ts =
      rw (forget_targets key z ms, is, out) (without-absent y ts y_out.0) in
      let mine : numbers_to key rest y ≡ [] = rw (others_left key z y y_out.1 ms) (new_first gone) in
      let others = same_made (numbers_to key rest) (numbers_to key ms) ts
      (λ k has_k. rw (others_left key z k (other_key k z ts has_k apart) ms)) in
      rw (kept, last) (
        all_out key z m ms rise,
        rw (rings-more key rest m, over, mine, others, take-map ring p there, front) refl,
      )

  unknown : has y there ≡ false
      → Right None (option_map (λ r. r.1) (slice_get now p)) ((y, m.0 ∷ []) ∷ take p now)
  unknown gone = elim (cases_Bool (nat_lt p (length there))) [
    | inl lt ↦ let cut = parted p there (grind (arith, nat_tests)) in
        new_full gone cut.0 cut.1 cut.2 cut.3
    | inr le ↦ new_room gone (grind (arith, nat_tests))
  ]

  -- what is left is what stays, and its rings are those that were noted
  pub one_more_kept : Right (oldest_gone p n y now) (ring_gone p n y now) (noted p n y now m.0)
  one_more_kept = elim (cases_Bool (has y there)) [
    | inl t ↦ simp (lookup-made (numbers_to key ms) y there, t) (known t)
    | inr gone ↦ simp (lookup-made (numbers_to key ms) y there, gone) (unknown gone)
  ]
