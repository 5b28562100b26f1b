-- What is left of messages of two kinds after some were taken out by their numbers.
use Rattle.history.proofs.Words
use Words.{◌<◌, ◌∙◌, ◌∷◌, ◌≡◌, AllByRecursion, Bool, IfSome, List, None, Option, Some, []}
use Words.{all_taken, ap, arith, bytes_eq, cond, false, filter, is_to, length, lookup, map}
use Words.{nat_lt, nat_tests, not, numbers_to, oldest_gone, option_map, option_map_or, refl}
use Words.{reverse, ring_gone, rings_of, slice_get, suc, taken, targets, unwrap_or, zero, ℕ}
use Rattle.history.proofs.{Apart.{all_of_some, kind_is, of_other}, OneMore.{Rises, some_numbers}}
use Rattle.{history.specs.Retained.of_kind, irc_line.proofs.Logic.cases_Bool}
use Rattle.std.proofs.Common.{inl, inr}

-- ---- messages that are taken out by their numbers

module _ {E : Type 0} where
  pub rises_some : (p : ℕ × E → Bool) (ms : List (ℕ × E)) → Rises ms → Rises (filter p ms)
  rises_some p [] r = tt
  rises_some p (m ∷ l) r =
      let later = all_of_some (λ b. m.0 < b.0) p l r.0 in grind (arith, later, rises_some p l r.1)

  -- a number that is higher than all is none of theirs
  not_taken : (j : ℕ) (ms : List (ℕ × E)) → AllByRecursion (λ m. j < m.0) ms → taken j ms ≡ ms
  not_taken j [] all = refl
  not_taken j (m ∷ l) all =
      let lt : j < m.0 = all.0 in grind (arith, nat_tests, not_taken j l all.1)

  taken_some : (P : ℕ × E → Type 0) (j : ℕ) (ms : List (ℕ × E)) → AllByRecursion P ms
      → AllByRecursion P (taken j ms)
  taken_some P j [] all = tt
  taken_some P j (m ∷ l) all = grind (arith, all.0, all.1, taken_some P j l all.1)

  pub rises_taken : (j : ℕ) (ms : List (ℕ × E)) → Rises ms → Rises (taken j ms)
  rises_taken j [] r = tt
  rises_taken j (m ∷ l) r =
      let later = taken_some (λ b. m.0 < b.0) j l r.0 in
      grind (arith, r.1, later, rises_taken j l r.1)

  -- it is all one whether a number is taken out before some are chosen, or after
  pub taken_of : (p : ℕ × E → Bool) (j : ℕ) (ms : List (ℕ × E)) → Rises ms
      → filter p (taken j ms) ≡ taken j (filter p ms)
  taken_of p j [] r = refl
  taken_of p j (m ∷ l) r =
      let later = λ (e : j ≡ m.0).
      not_taken j (filter p l) (rw e (all_of_some (λ b. m.0 < b.0) p l r.0)) in
      grind (arith, nat_tests, taken_of p j l r.1, later)

  rises_all_taken : (js : List ℕ) (ms : List (ℕ × E)) → Rises ms → Rises (all_taken js ms)
  rises_all_taken [] ms r = r
  rises_all_taken (j ∷ js) ms r = rises_all_taken js (taken j ms) (rises_taken j ms r)

  all_taken_of : (p : ℕ × E → Bool) (js : List ℕ) (ms : List (ℕ × E)) → Rises ms
      → filter p (all_taken js ms) ≡ all_taken js (filter p ms)
  all_taken_of p [] ms r = refl
  all_taken_of p (j ∷ js) ms r =
      all_taken_of p js (taken j ms) (rises_taken j ms r) ∙ ap (all_taken js) (taken_of p j ms r)

  -- numbers that are none of theirs
  abbrev pub IsElsewhere : List (ℕ × E) → ℕ → Type 0
  IsElsewhere ms j = taken j ms ≡ ms

  none_taken : (js : List ℕ) (ms : List (ℕ × E)) → AllByRecursion (IsElsewhere ms) js
      → all_taken js ms ≡ ms
  none_taken [] ms all = refl
  none_taken (j ∷ js) ms all = rw all.0 (none_taken js ms all.1)

  -- a number of one kind is none of the other
  module _ (kind : ℕ × E → Bool) where
    past_one : (b : Bool) (m : ℕ × E) (l : List (ℕ × E)) (j : ℕ) → m.0 < j
        → IsElsewhere (filter (of_kind kind b) l) j
        → IsElsewhere (filter (of_kind kind b) (m ∷ l)) j
    past_one b m l j lt rest = grind (arith, nat_tests, rest)

    past_all : (b : Bool) (m : ℕ × E) (l xs : List (ℕ × E)) → AllByRecursion (λ x. m.0 < x.0) xs
        → AllByRecursion (λ x. IsElsewhere (filter (of_kind kind b) l) x.0) xs
        → AllByRecursion (λ x. IsElsewhere (filter (of_kind kind b) (m ∷ l)) x.0) xs
    past_all b m l [] high all = tt
    past_all b m l (x ∷ xs) high all =
        (past_one b m l x.0 high.0 all.0, past_all b m l xs high.1 all.1)

    here_not : (b : Bool) (m : ℕ × E) (l : List (ℕ × E)) → of_kind kind b m ≡ false
        → AllByRecursion (λ x. m.0 < x.0) l
        → IsElsewhere (filter (of_kind kind b) (m ∷ l)) m.0
    here_not b m l f high =
        let rest = not_taken m.0 (filter (of_kind kind b) l)
        (all_of_some (λ x. m.0 < x.0) (of_kind kind b) l high) in
        rw f rest

    pub numbers_apart : (b : Bool) (ms : List (ℕ × E)) → Rises ms
        → AllByRecursion (λ x. IsElsewhere (filter (of_kind kind (not b)) ms) x.0)
        (filter (of_kind kind b) ms)
    numbers_apart b [] r = tt
    numbers_apart b (m ∷ l) r =
        let rest = past_all (not b) m l (filter (of_kind kind b) l)
        (all_of_some (λ x. m.0 < x.0) (of_kind kind b) l r.0) (numbers_apart b l r.1) in
        elim (cases_Bool (of_kind kind b m)) [
          | inl t ↦
              let here = here_not (not b) m l (of_other kind b m (kind_is kind b m t)) r.0 in
              rw t (here, rest)
          | inr f ↦ rw f rest
        ]

-- what holds of all numbers in rings holds of those that go
module _ (P : ℕ → Type 0) (k : List ℕ) (n : ℕ) where
  abbrev AllIn : List (List ℕ × List ℕ) → Type 0
  AllIn rs = AllByRecursion (λ (r : List ℕ × List ℕ). AllByRecursion P r.1) rs

  found_in : (rs : List (List ℕ × List ℕ)) → AllIn rs
      → IfSome (lookup (bytes_eq k) rs) (AllByRecursion P)
  found_in [] all = tt
  found_in (r ∷ rs) all = grind (arith, all.0, found_in rs all.1)

  at_place : (i : ℕ) (js : List ℕ) → AllByRecursion P js → IfSome (slice_get js i) P
  at_place i [] all = tt
  at_place zero (j ∷ js) all = all.0
  at_place (suc i) (j ∷ js) all = at_place i js all.1

  ring_at : (i : ℕ) (rs : List (List ℕ × List ℕ)) → AllIn rs
      → AllByRecursion P (unwrap_or (option_map (λ r. r.1) (slice_get rs i)) [])
  ring_at i [] all = tt
  ring_at zero (r ∷ rs) all = all.0
  ring_at (suc i) (r ∷ rs) all = ring_at i rs all.1

  pub oldest_in : (rs : List (List ℕ × List ℕ)) → AllIn rs → IfSome (oldest_gone 127 n k rs) P
  oldest_in rs all =
      let found = found_in rs all in
      elim (lookup (bytes_eq k) rs) as (λ (o : Option (List ℕ)). IfSome o (AllByRecursion P)
      → IfSome (option_map_or (λ old. cond (nat_lt (length old) n) None (slice_get old 0)) o None) P) [
        | None ↦ λ f. tt
        | (Some old) ↦ λ f. (let first = at_place 0 old f in grind (arith, first))
      ] found

  pub ring_in : (rs : List (List ℕ × List ℕ)) → AllIn rs
      → AllByRecursion P (unwrap_or (ring_gone 127 n k rs) [])
  ring_in rs all =
      elim (lookup (bytes_eq k) rs) as (λ (o : Option (List ℕ)).
      AllByRecursion P (unwrap_or (option_map_or (λ _. None) o
      (option_map (λ r. r.1) (slice_get rs 127))) [])) [
        | None ↦ ring_at 127 rs all
        | (Some old) ↦ tt
      ]

-- the rings of messages have their numbers
rings_hold : {E : Type 0} (P : ℕ → Type 0) (key : ℕ × E → List ℕ) (ms : List (ℕ × E))
    → AllByRecursion (λ m. P m.0) ms
    → AllByRecursion (λ (r : List ℕ × List ℕ). AllByRecursion P r.1) (rings_of key ms)
rings_hold P key ms all = each (targets key (reverse ms)) where
  each : (ts : List (List ℕ))
      → AllByRecursion (λ (r : List ℕ × List ℕ). AllByRecursion P r.1)
      (map (λ k. (k, numbers_to key ms k)) ts)
  each [] = tt
  each (k ∷ ts) = (some_numbers (is_to key k) P ms all, each ts)

-- ---- what is left after numbers were taken out

module _ {E : Type 0} where
  abbrev pub left : Option ℕ → Option (List ℕ) → List (ℕ × E) → List (ℕ × E)
  left oldest ring ms =
      all_taken (unwrap_or ring []) (option_map_or (λ j. taken j ms) oldest ms)

  pub rises_left : (oldest : Option ℕ) (ring : Option (List ℕ)) (ms : List (ℕ × E)) → Rises ms
      → Rises (left oldest ring ms)
  rises_left None ring ms r = rises_all_taken (unwrap_or ring []) ms r
  rises_left (Some j) ring ms r =
      rises_all_taken (unwrap_or ring []) (taken j ms) (rises_taken j ms r)

  pub left_of : (p : ℕ × E → Bool) (oldest : Option ℕ) (ring : Option (List ℕ)) (ms : List (ℕ × E))
      → Rises ms → filter p (left oldest ring ms) ≡ left oldest ring (filter p ms)
  left_of p None ring ms r = all_taken_of p (unwrap_or ring []) ms r
  left_of p (Some j) ring ms r =
      all_taken_of p (unwrap_or ring []) (taken j ms) (rises_taken j ms r)
      ∙ ap (all_taken (unwrap_or ring [])) (taken_of p j ms r)

  left_whole : (oldest : Option ℕ) (ring : Option (List ℕ)) (ms : List (ℕ × E))
      → IfSome oldest (IsElsewhere ms) → AllByRecursion (IsElsewhere ms) (unwrap_or ring [])
      → left oldest ring ms ≡ ms
  left_whole None ring ms one all = none_taken (unwrap_or ring []) ms all
  left_whole (Some j) ring ms one all = rw one (none_taken (unwrap_or ring []) ms all)

  -- what goes for a message of one kind is of its kind
  pub left_others : (kind : ℕ × E → Bool) (key : ℕ × E → List ℕ) (k : List ℕ) (n : ℕ) (b : Bool)
      (ms : List (ℕ × E)) → Rises ms
      → left (oldest_gone 127 n k (rings_of key (filter (of_kind kind b) ms)))
      (ring_gone 127 n k (rings_of key (filter (of_kind kind b) ms)))
      (filter (of_kind kind (not b)) ms) ≡ filter (of_kind kind (not b)) ms
  left_others kind key k n b ms r =
      let others = filter (of_kind kind (not b)) ms in
      let rs = rings_of key (filter (of_kind kind b) ms) in
      let all = rings_hold (IsElsewhere others) key (filter (of_kind kind b) ms)
      (numbers_apart kind b ms r) in
      left_whole (oldest_gone 127 n k rs) (ring_gone 127 n k rs) others
      (oldest_in (IsElsewhere others) k n rs all) (ring_in (IsElsewhere others) k n rs all)
