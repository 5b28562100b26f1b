-- Messages of two kinds, of which none pushes out one of the other kind.
use Rattle.history.proofs.Words
use Words.{◌++◌, ◌+◌, ◌<◌, ◌∙◌, ◌∷◌, ◌≡◌, ◌≤◌, AllByRecursion, Bool, EntryParts, List, []}
use Words.{after_one_more, all_by_recursion_push, ap, append-nil, arith, bytes_eq, false}
use Words.{filter, filter-append, is_to, length, length-append, length-filter_both}
use Words.{looking_back, nat_lt, nat_tests, not, refl, retained, reverse, stays, suc, sym}
use Words.{target_key, targets, true, zero, ℕ}
use Rattle.history.proofs.Keys.{key_tells, once, same_key, without}
use Rattle.history.proofs.OneMore.{Rises, all_stay, trimmed}
use Rattle.history.proofs.Retained.{filter-turned, nothing_passes, retained-more, retained-none}
use Rattle.history.proofs.Retained.{retained-targets}
use Rattle.history.proofs.Retained.{turned_last, turned_round}
use Rattle.history.specs.Messages.{is_with_person, kept_with, retained_of, staying_of, target_limit}
use Rattle.history.specs.Retained.{is_retained, looking_back_apart, of_kind}
use Rattle.{irc_line.proofs.Logic.cases_Bool, std.proofs.Common.{append_assoc, inl, inr, subst}}
use Rattle.std.proofs.lemmas.List.{length-take}

-- ---- lists

pub filter-reverse : {Y : Type 0} (p : Y → Bool) (ys : List Y)
    → filter p (reverse ys) ≡ reverse (filter p ys)
filter-reverse p [] = refl
filter-reverse p (y ∷ ys) =
    let turned = turned_round y (filter p ys) in
    grind (arith, turned_round y ys, turned, filter-append, filter-reverse p ys, append-nil)

-- a list that is not empty, and its last one
last_part : {Y : Type 0} (y : Y) (ys : List Y) → (l : List Y) × (z : Y) × (y ∷ ys ≡ l ++ z ∷ [])
last_part y [] = ([], y, refl)
last_part y (x ∷ ys) =
    let rest = last_part x ys in (y ∷ rest.0, rest.1, ap (λ l. y ∷ l) rest.2)

pub all_of_some : {Y : Type 0} (P : Y → Type 0) (p : Y → Bool) (ys : List Y) → AllByRecursion P ys
    → AllByRecursion P (filter p ys)
all_of_some P p [] all = tt
all_of_some P p (y ∷ ys) all = grind (arith, all.0, all_of_some P p ys all.1)

-- ---- one kind of them

module _ {X : Type 0} (kind : X → Bool) where
  pub kind_is : (b : Bool) (m : X) → of_kind kind b m ≡ true → kind m ≡ b
  kind_is true m e = e
  kind_is false m e = grind (arith, e)

  pub of_own : (b : Bool) (m : X) → kind m ≡ b → of_kind kind b m ≡ true
  of_own true m e = e
  of_own false m e = rw e refl

  pub of_other : (b : Bool) (m : X) → kind m ≡ b → of_kind kind (not b) m ≡ false
  of_other true m e = rw e refl
  of_other false m e = e

  module _ (key : X → List ℕ) (test : List ℕ → List X → Bool) where
    pub apart_kind : (b : Bool) (ms : List X)
        → filter (of_kind kind b) (looking_back_apart key kind test ms)
        ≡ looking_back key test (filter (of_kind kind b) ms)
    apart_kind b [] = refl
    apart_kind b (m ∷ l) = elim (cases_Bool (of_kind kind b m)) [
      | inl t ↦
          let same : kind m ≡ b = kind_is b m t in
          let turned = filter-reverse (of_kind kind b) l in
          rw (t, same, turned) (grind (arith, apart_kind b l, t))
      | inr f ↦ grind (arith, apart_kind b l, f)
    ]

    pub all_apart : (P : X → Type 0) (ms : List X) → AllByRecursion P ms
        → AllByRecursion P (looking_back_apart key kind test ms)
    all_apart P [] all = tt
    all_apart P (m ∷ l) all = grind (arith, all.0, all_apart P l all.1)

module _ {E : Type 0} (kind : ℕ × E → Bool) where
  pub rises_apart : (key : ℕ × E → List ℕ) (test : List ℕ → List (ℕ × E) → Bool)
      (ms : List (ℕ × E)) → Rises ms → Rises (looking_back_apart key kind test ms)
  rises_apart key test [] r = tt
  rises_apart key test (m ∷ l) r =
      let later = all_apart kind key test (λ b. m.0 < b.0) l r.0 in
      grind (arith, later, rises_apart key test l r.1)

  -- two heads of different kinds can't both be the first
  crossed : (b : Bool) (x y : ℕ × E) (xs ys : List (ℕ × E)) → Rises (x ∷ xs) → Rises (y ∷ ys)
      → x ∷ filter (of_kind kind b) xs ≡ filter (of_kind kind b) ys
      → filter (of_kind kind (not b)) xs ≡ y ∷ filter (of_kind kind (not b)) ys → ⊥
  crossed b x y xs ys rx ry one other =
      let up : AllByRecursion (λ (m : ℕ × E). y.0 < m.0) (x ∷ filter (of_kind kind b) xs) =
      subst (AllByRecursion (λ (m : ℕ × E). y.0 < m.0)) (sym one)
      (all_of_some (λ m. y.0 < m.0) (of_kind kind b) ys ry.0) in
      let down : AllByRecursion (λ (m : ℕ × E). x.0 < m.0)
      (y ∷ filter (of_kind kind (not b)) ys) =
      subst (AllByRecursion (λ (m : ℕ × E). x.0 < m.0)) other
      (all_of_some (λ m. x.0 < m.0) (of_kind kind (not b)) xs rx.0) in
      let lower : y.0 < x.0 = up.0 in
      let higher : x.0 < y.0 = down.0 in
      absurd (omega (arith, lower, higher))

  heads : {Y : Type 0} (x y : Y) (xs ys : List Y) → x ∷ xs ≡ y ∷ ys → (x ≡ y) × (xs ≡ ys)
  heads x y xs ys e = (cc, cc)

  module _ (x y : ℕ × E) (xs ys : List (ℕ × E)) where
    both_true : kind x ≡ true → kind y ≡ true
        → filter (of_kind kind true) (x ∷ xs) ≡ filter (of_kind kind true) (y ∷ ys)
        → filter (of_kind kind false) (x ∷ xs) ≡ filter (of_kind kind false) (y ∷ ys)
        → (x ≡ y) × (filter (of_kind kind true) xs ≡ filter (of_kind kind true) ys)
        × (filter (of_kind kind false) xs ≡ filter (of_kind kind false) ys)
    both_true tx ty one other =
        let there : x ∷ filter (of_kind kind true) xs ≡ y ∷ filter (of_kind kind true) ys =
        grind (arith, one, tx, ty) in
        let split = heads x y _ _ there in
        (split.0, split.1, grind (arith, other, tx, ty))

    both_false : kind x ≡ false → kind y ≡ false
        → filter (of_kind kind true) (x ∷ xs) ≡ filter (of_kind kind true) (y ∷ ys)
        → filter (of_kind kind false) (x ∷ xs) ≡ filter (of_kind kind false) (y ∷ ys)
        → (x ≡ y) × (filter (of_kind kind true) xs ≡ filter (of_kind kind true) ys)
        × (filter (of_kind kind false) xs ≡ filter (of_kind kind false) ys)
    both_false fx fy one other =
        let there : x ∷ filter (of_kind kind false) xs ≡ y ∷ filter (of_kind kind false) ys =
        grind (arith, other, fx, fy) in
        let split = heads x y _ _ there in
        (split.0, grind (arith, one, fx, fy), split.1)

  first_true : (x : ℕ × E) (xs ys : List (ℕ × E)) → kind x ≡ true
      → filter (of_kind kind true) (x ∷ xs) ≡ ys → x ∷ filter (of_kind kind true) xs ≡ ys
  first_true x xs ys t e = grind (arith, e, t)

  first_false : (x : ℕ × E) (xs ys : List (ℕ × E)) → kind x ≡ false
      → filter (of_kind kind false) (x ∷ xs) ≡ ys → x ∷ filter (of_kind kind false) xs ≡ ys
  first_false x xs ys f e = grind (arith, e, f)

  not_true : (x : ℕ × E) (xs ys : List (ℕ × E)) → kind x ≡ false
      → filter (of_kind kind true) (x ∷ xs) ≡ ys → filter (of_kind kind true) xs ≡ ys
  not_true x xs ys f e = grind (arith, e, f)

  not_false : (x : ℕ × E) (xs ys : List (ℕ × E)) → kind x ≡ true
      → filter (of_kind kind false) (x ∷ xs) ≡ ys → filter (of_kind kind false) xs ≡ ys
  not_false x xs ys t e = grind (arith, e, t)

  some_head : {Y : Type 0} (y : Y) (ys : List Y) → y ∷ ys ≡ [] → ⊥
  some_head y ys e = cc

  no_more : (y : ℕ × E) (ys : List (ℕ × E)) → filter (of_kind kind true) (y ∷ ys) ≡ []
      → filter (of_kind kind false) (y ∷ ys) ≡ [] → ⊥
  no_more y ys one other = elim (cases_Bool (kind y)) [
    | inl t ↦ some_head y _ (first_true y ys [] t one)
    | inr f ↦ some_head y _ (first_false y ys [] f other)
  ]

  -- messages in order are the same if those of each kind are
  pub by_kinds : (xs ys : List (ℕ × E)) → Rises xs → Rises ys
      → filter (of_kind kind true) xs ≡ filter (of_kind kind true) ys
      → filter (of_kind kind false) xs ≡ filter (of_kind kind false) ys → xs ≡ ys
  by_kinds [] [] rx ry one other = refl
  by_kinds [] (y ∷ ys) rx ry one other = absurd (no_more y ys (sym one) (sym other))
  by_kinds (x ∷ xs) [] rx ry one other = absurd (no_more x xs one other)
  by_kinds (x ∷ xs) (y ∷ ys) rx ry one other = elim (cases_Bool (kind x)) [
    | inl tx ↦ elim (cases_Bool (kind y)) [
      | inl ty ↦
          let parts = both_true x y xs ys tx ty one other in
          let rest = by_kinds xs ys rx.1 ry.1 parts.1 parts.2 in grind (arith, parts.0, rest)
      | inr fy ↦ absurd (crossed true x y xs ys rx ry
          (first_true x xs _ tx one ∙ sym (not_true y ys _ fy refl))
          (not_false x xs _ tx other ∙ sym (first_false y ys _ fy refl)))
    ]
    | inr fx ↦ elim (cases_Bool (kind y)) [
      | inl ty ↦ absurd (crossed false x y xs ys rx ry
          (first_false x xs _ fx other ∙ sym (not_false y ys _ ty refl))
          (not_true x xs _ fx one ∙ sym (first_true y ys _ ty refl)))
      | inr fy ↦
          let parts = both_false x y xs ys fx fy one other in
          let rest = by_kinds xs ys rx.1 ry.1 parts.1 parts.2 in grind (arith, parts.0, rest)
    ]
  ]

  pub by_both : (b : Bool) (xs ys : List (ℕ × E)) → Rises xs → Rises ys
      → filter (of_kind kind b) xs ≡ filter (of_kind kind b) ys
      → filter (of_kind kind (not b)) xs ≡ filter (of_kind kind (not b)) ys → xs ≡ ys
  by_both true xs ys rx ry one other = by_kinds xs ys rx ry one other
  by_both false xs ys rx ry one other = by_kinds xs ys rx ry other one

-- ---- what stays if nothing is too many

abbrev Kept : Type 0
Kept = List (ℕ × EntryParts)

abbrev pub AreFew : Kept → Type 0
AreFew l = length (targets target_key (reverse l)) ≤ 128

abbrev pub AreEach : ℕ → Kept → Type 0
AreEach n l = (k : List ℕ) → length (filter (is_to target_key k) l) ≤ n

one_target_more : (l : Kept) (m : ℕ × EntryParts) → length (targets target_key (reverse l))
    ≤ length (targets target_key (reverse (l ++ m ∷ [])))
one_target_more l m =
    let y = target_key m in
    let ts = targets target_key (reverse l) in
    let both = length-filter_both (bytes_eq y) (λ x. not (bytes_eq y x)) (λ _. refl) ts in
    let one = once target_key y (reverse l) in
    rw (turned_last m l) (omega (arith, both, one))

pub few_before : (l ms : Kept) → AreFew (l ++ ms) → AreFew l
few_before l [] few = rw (append-nil l) at few
few_before l (m ∷ ms) few =
    let grouped : length (targets target_key (reverse ((l ++ m ∷ []) ++ ms))) ≤ 128 =
    rw (append_assoc l (m ∷ []) ms) few in
    let later = few_before (l ++ m ∷ []) ms grouped in
    let step = one_target_more l m in
    omega (arith, later, step)

pub each_before : (n : ℕ) (l ms : Kept) → AreEach n (l ++ ms) → AreEach n l
each_before n l ms each k =
    grind (arith, each k, filter-append (is_to target_key k) l ms, length-append)

one_stays : (n : ℕ) (l : Kept) (m : ℕ × EntryParts) → nat_lt 0 n ≡ true → AreFew (l ++ m ∷ [])
    → AreEach n (l ++ m ∷ [])
    → after_one_more target_key target_limit n (l ++ m ∷ []) ≡ l ++ m ∷ []
one_stays n l m some few each =
    let y = target_key m in
    let others : length (without y (targets target_key (reverse l))) < 128 =
    let turned = rw (turned_last m l) at few in omega (arith, turned) in
    let count : length (filter (is_to target_key y) (l ++ m ∷ []))
    ≡ length (filter (is_to target_key y) l) + 1 =
    grind (arith, filter-append (is_to target_key y) l (m ∷ []), length-append, same_key y) in
    let room : nat_lt (length (filter (is_to target_key y) l)) n ≡ true =
    grind (arith, nat_tests, each y, count) in
    let whole : trimmed target_key n y l ≡ l = rw room refl in
    all_stay target_key 128 n m some refl l others (each_before n l (m ∷ []) each)
    ∙ rw whole refl

pub all_in_place : (n : ℕ) (l : Kept) → nat_lt 0 n ≡ true → AreFew l → AreEach n l
    → after_one_more target_key target_limit n l ≡ l
all_in_place n [] some few each = refl
all_in_place n (m ∷ l) some few each =
    let cut = last_part m l in
    subst (λ (k : Kept). AreFew k → AreEach n k → after_one_more target_key target_limit n k ≡ k)
    (sym cut.2) (one_stays n cut.0 cut.1 some) few each

-- the same of both kinds
pub staying : (n : ℕ) (ms : Kept) → nat_lt 0 n ≡ true → Rises ms
    → ((b : Bool) → AreFew (kept_with b ms)) → ((b : Bool) → AreEach n (kept_with b ms))
    → staying_of n ms ≡ ms
staying n ms some rise few each =
    let one = λ (b : Bool).
    apart_kind is_with_person target_key (stays target_key target_limit n) b ms
    ∙ all_in_place n (kept_with b ms) some (few b) (each b) in
    by_kinds is_with_person (staying_of n ms) ms
    (rises_apart is_with_person target_key (stays target_key target_limit n) ms rise) rise
    (one true) (one false)

-- ---- of all messages

pub kinds_apart : (b : Bool) (n : ℕ) (ms : Kept)
    → kept_with b (retained_of n ms) ≡ retained target_key target_limit n (kept_with b ms)
kinds_apart b n ms =
    apart_kind is_with_person target_key (is_retained target_key target_limit n) b ms

few_retained : (n : ℕ) (l : Kept) → 0 < n → AreFew (retained target_key target_limit n l)
few_retained n l pos =
    let ts = targets target_key (reverse l) in
    rw (retained-targets target_key target_limit n pos l, length-take target_limit ts)
    (omega arith)

retained_fewer : (n : ℕ) (k : List ℕ) (l : Kept)
    → length (filter (is_to target_key k) (retained target_key target_limit n l))
    ≤ length (filter (is_to target_key k) l)
retained_fewer n k [] = omega arith
retained_fewer n k (m ∷ l) = grind (arith, retained_fewer n k l)

each_retained : (n : ℕ) (l : Kept) → AreEach n (retained target_key target_limit n l)
each_retained n [] k = omega arith
each_retained n (m ∷ l) k =
    let count = filter-turned (is_to target_key k) l in
    grind (arith, nat_tests, key_tells, count, retained_fewer n k l, each_retained n l k)

-- what is retained stays, if nothing comes
none_comes : (n : ℕ) (l : Kept) → after_one_more target_key target_limit n
    (retained target_key target_limit n l) ≡ retained target_key target_limit n l
none_comes zero l =
    let none = nothing_passes target_key (is_retained target_key target_limit 0)
    (λ k back. grind (arith, nat_tests)) l in
    rw none refl
none_comes (suc n) l =
    all_in_place (suc n) (retained target_key target_limit (suc n) l) (grind (arith, nat_tests))
    (few_retained (suc n) l (omega arith)) (each_retained (suc n) l)

one_comes : (n : ℕ) (m : ℕ × EntryParts) (l : Kept)
    → after_one_more target_key target_limit n (retained target_key target_limit n l ++ m ∷ [])
    ≡ retained target_key target_limit n (l ++ m ∷ [])
one_comes zero m l = retained-none target_key target_limit m l
one_comes (suc n) m l = retained-more target_key target_limit (suc n) (omega arith) refl m l

of_one : (n : ℕ) (b : Bool) (m : ℕ × EntryParts) (ms : Kept)
    → kept_with b (staying_of n (retained_of n ms ++ m ∷ []))
    ≡ kept_with b (retained_of n (ms ++ m ∷ []))
of_one n b m ms =
    let left = apart_kind is_with_person target_key (stays target_key target_limit n) b
    (retained_of n ms ++ m ∷ []) in
    let before = filter-append (of_kind is_with_person b) (retained_of n ms) (m ∷ []) in
    let after = filter-append (of_kind is_with_person b) ms (m ∷ []) in
    let l = kept_with b ms in
    let right = kinds_apart b n (ms ++ m ∷ []) in
    let kept = retained target_key target_limit n l in
    elim (cases_Bool (of_kind is_with_person b m)) [
      | inl t ↦
          let same : kept_with b (retained_of n ms ++ m ∷ []) ≡ kept ++ m ∷ [] =
          grind (arith, before, kinds_apart b n ms, t) in
          let all : kept_with b (ms ++ m ∷ []) ≡ l ++ m ∷ [] = grind (arith, after, t) in
          rw (left, right, same, all) (one_comes n m l)
      | inr f ↦
          let same : kept_with b (retained_of n ms ++ m ∷ []) ≡ kept =
          grind (arith, before, kinds_apart b n ms, f, append-nil kept) in
          let all : kept_with b (ms ++ m ∷ []) ≡ l = grind (arith, after, f, append-nil l) in
          rw (left, right, same, all) (none_comes n l)
    ]

pub rises_more : (l : Kept) (m : ℕ × EntryParts) → Rises l → AllByRecursion (λ x. x.0 < m.0) l
    → Rises (l ++ m ∷ [])
rises_more [] m r below = (tt, tt)
rises_more (x ∷ l) m r below =
    (all_by_recursion_push (λ y. x.0 < y.0) l m r.0 below.0, rises_more l m r.1 below.1)

-- what stays of the messages retained before is what is retained of all
pub retained_more : (n : ℕ) (m : ℕ × EntryParts) (ms : Kept) → Rises ms
    → AllByRecursion (λ x. x.0 < m.0) ms
    → staying_of n (retained_of n ms ++ m ∷ []) ≡ retained_of n (ms ++ m ∷ [])
retained_more n m ms rise below =
    let test = is_retained target_key target_limit n in
    let kept = retained_of n ms in
    let kept_rise = rises_apart is_with_person target_key test ms rise in
    let kept_below = all_apart is_with_person target_key test (λ x. x.0 < m.0) ms below in
    by_kinds is_with_person (staying_of n (kept ++ m ∷ [])) (retained_of n (ms ++ m ∷ []))
    (rises_apart is_with_person target_key (stays target_key target_limit n) (kept ++ m ∷ [])
    (rises_more kept m kept_rise kept_below))
    (rises_apart is_with_person target_key test (ms ++ m ∷ []) (rises_more ms m rise below))
    (of_one n true m ms) (of_one n false m ms)
