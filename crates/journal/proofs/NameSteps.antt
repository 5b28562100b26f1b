-- What the records of names do: maps, names that are taken out, and names that changed.
use Rattle.std.proofs.Common.{◌≡◌, ◌∙◌, ◌+◌, ◌-◌, ◌<◌, ◌≤◌, ◌&&◌, arith, ℕ, Bool, List, []}
use Rattle.std.proofs.Common.{◌∷◌, ◌⊎◌, Option, Some, None, Ok, T, true, false, refl, sym, ap, subst}
use Rattle.std.proofs.Common.{inl, inr, suc, zero, length}
use Rattle.std.specs.Prelude.{nat_eq, nat_le, not, if◌then◌else◌}
use Rattle.std.specs.List.{flat_map}
use Rattle.std.specs.Option.{option_eq, option_map}
use Rattle.std.specs.FinMap as fin
use Rattle.std.specs.FinMap.{find, is_sorted}
use Rattle.std.specs.FinMap.{entries_sorted, get-entries, get-from_entries, get-insert, get-remove}
use Rattle.std.specs.FinMap.{len-entries, len-insert, len-remove, same_map}
use Rattle.std.specs.FinMap.Entries.{below_all}
use Rattle.std.specs.Cmp.{Lexicographic.nat_list_cmp_total}
use Rattle.std.specs.Ordering.{eq_by_cmp, is_eq}
use Rattle.std.specs.declared.cmp.Ordering.{Ordering}
use Rattle.std.specs.declared.cmp.Ordering.TheVariants.{Equal, Greater, Less}
use Rattle.std.proofs.lemmas.Bool.Decides.{nat_tests}
use Rattle.irc_line.proofs.Logic.{cases_Bool}
use Rattle.history.specs.Marks.{NameMarks, bytes_cmp, mark_of, with_mark}
use Rattle.journal.proofs.Snapshots.{after_two, counted_there, exact, itself, marked_new, named_there}
use Rattle.journal.specs.Changes.{can_follow, changed_of, gone_of, is_changed, is_gone, name_changes}
use Rattle.journal.specs.Changes.{rises}
use Rattle.journal.specs.Kept.{KeptParts, after, after_each, counted, marked, marked_at, named}
use Rattle.journal.specs.Kept.{then_after, then_marked}
use Rattle.journal.specs.Records.{name, seen}
use Rattle.journal.specs.Snapshots.{counting, counting_all, counting_one, name_record, seen_records}

abbrev pub Entries : Type 0
Entries = List (List ℕ × Option ℕ)

abbrev pub holding : KeptParts → NameMarks → NameMarks → KeptParts
holding k a b = record k { marks = a; marked = b }

-- ---- keys

is_equal : (o : Ordering) → is_eq o ≡ true → o ≡ Equal
is_equal Less e = absurd cc
is_equal Equal e = refl
is_equal Greater e = absurd cc

same_key : (x y : List ℕ) → eq_by_cmp bytes_cmp x y ≡ true → x ≡ y
same_key x y e = exact x y (is_equal (bytes_cmp x y) e)

-- the key of the first entry is at no later one
not_below : (x : List ℕ) (es : Entries) → T (below_all bytes_cmp x es) → find bytes_cmp x es ≡ None
not_below x [] low = refl
not_below x (e ∷ es) low = grind (arith, low, not_below x es)

first_once : (x : List ℕ) (v : Option ℕ) (es : Entries) → T (is_sorted bytes_cmp ((x, v) ∷ es))
    → find bytes_cmp x es ≡ None
first_once x v es sorted = not_below x es (grind (arith, sorted))

later_sorted : (e : List ℕ × Option ℕ) (es : Entries) → T (is_sorted bytes_cmp (e ∷ es))
    → T (is_sorted bytes_cmp es)
later_sorted e es sorted = grind (arith, sorted)

none_some : {A : Type 0} (x : A) → None ≡ Some x → ⊥
none_some x e = absurd cc

-- a key that comes later is another one
later_differs : (x q : List ℕ) (v w : Option ℕ) (es : Entries)
    → T (is_sorted bytes_cmp ((x, v) ∷ es)) → find bytes_cmp q es ≡ Some w
    → eq_by_cmp bytes_cmp q x ≡ false
later_differs x q v w es sorted there = elim (cases_Bool (eq_by_cmp bytes_cmp q x)) [
  | inl same ↦
      let key : q ≡ x = same_key q x same in
      absurd (none_some w (sym (first_once x v es sorted)
      ∙ ap (λ (k : List ℕ). find bytes_cmp k es) (sym key) ∙ there))
  | inr differs ↦ differs
]

find_later : (x q : List ℕ) (v w : Option ℕ) (es : Entries)
    → T (is_sorted bytes_cmp ((x, v) ∷ es)) → find bytes_cmp q es ≡ Some w
    → find bytes_cmp q ((x, v) ∷ es) ≡ Some w
find_later x q v w es sorted there = rw (later_differs x q v w es sorted there) there

-- ---- maps

insert_same : (m : NameMarks) (x : List ℕ) (v : Option ℕ) → fin.get m x ≡ Some v
    → fin.insert m x v ≡ m
insert_same m x v is = same_map nat_list_cmp_total exact _ _ (λ q.
    elim (cases_Bool (eq_by_cmp bytes_cmp q x)) [
      | inl same ↦
          get-insert nat_list_cmp_total m x v q ∙ rw same
          (sym (ap (fin.get m) (same_key q x same) ∙ is))
      | inr differs ↦ get-insert nat_list_cmp_total m x v q ∙ rw differs refl
    ])

-- all names of one map are names of the other
abbrev pub IsIn : NameMarks → NameMarks → Type 0
IsIn a m = (q : List ℕ) → fin.contains_key a q ≡ true → fin.contains_key m q ≡ true

pub true_false : true ≡ false → ⊥
true_false e = absurd cc

get_first : (m : NameMarks) (e : List ℕ × Option ℕ) (es : Entries) → fin.entries m ≡ e ∷ es
    → fin.contains_key m e.0 ≡ true
get_first m e es is =
    let found : fin.get m e.0 ≡ Some e.1 =
    get-entries m e.0 ∙ ap (find bytes_cmp e.0) is ∙ rw (itself e.0) refl in
    rw found refl

get_none : (m : NameMarks) (q : List ℕ) → fin.entries m ≡ [] → fin.contains_key m q ≡ false
get_none m q is =
    let found : fin.get m q ≡ None = get-entries m q ∙ ap (find bytes_cmp q) is in
    rw found refl

removed_in : (a m : NameMarks) (x : List ℕ) → IsIn a m → IsIn (fin.remove a x) (fin.remove m x)
removed_in a m x all q here =
    grind (
      arith,
      here,
      all q,
      get-remove nat_list_cmp_total a x q,
      get-remove nat_list_cmp_total m x q,
    )

has_one : (m : NameMarks) (es : Entries) (x : List ℕ) → fin.entries m ≡ es
    → fin.contains_key m x ≡ true → 0 < fin.len m
has_one m [] x is here = absurd (true_false (sym here ∙ get_none m x is))
has_one m (e ∷ es) x is here =
    let count : length (fin.entries m) ≡ length (e ∷ es) = ap length is in
    omega (arith, len-entries m, count)

few_in : (n : ℕ) (a m : NameMarks) (es : Entries) → fin.entries a ≡ es → length es ≡ n
    → IsIn a m → n ≤ fin.len m
few_in zero a m es is count all = omega arith
few_in (suc n) a m [] is count all = absurd (omega (arith, count))
few_in (suc n) a m (e ∷ es) is count all =
    let x = e.0 in
    let here = get_first a e es is in
    let less : fin.len (fin.remove a x) ≡ fin.len a - 1 =
    len-remove nat_list_cmp_total a x ∙ rw here refl in
    let less_too : fin.len (fin.remove m x) ≡ fin.len m - 1 =
    len-remove nat_list_cmp_total m x ∙ rw (all x here) refl in
    let size : fin.len a ≡ suc n = len-entries a ∙ ap length is ∙ count in
    let rest_size : length (fin.entries (fin.remove a x)) ≡ n =
    omega (arith, len-entries (fin.remove a x), less, size) in
    let rest = few_in n (fin.remove a x) (fin.remove m x) (fin.entries (fin.remove a x)) refl
    rest_size (removed_in a m x all) in
    omega (arith, rest, less_too, has_one m (fin.entries m) x refl (all x here))

-- a name of the other map that is not in this one yet has room
room_in : (a m : NameMarks) (x : List ℕ) → IsIn a m → fin.contains_key m x ≡ true
    → fin.get a x ≡ None → fin.len m ≤ 64 → fin.len a < 64
room_in a m x all here none few =
    let more = fin.insert a x None in
    let all_more : IsIn more m = λ q there.
    elim (cases_Bool (eq_by_cmp bytes_cmp q x)) [
      | inl same ↦
          subst (λ (k : List ℕ). fin.contains_key m k ≡ true) (sym (same_key q x same)) here
      | inr differs ↦
          all q (grind (arith, there, differs, get-insert nat_list_cmp_total a x None q))
    ] in
    let count : fin.len more ≡ fin.len a + 1 =
    len-insert nat_list_cmp_total a x None ∙ rw none refl in
    let size : length (fin.entries more) ≡ fin.len a + 1 = omega (arith, len-entries more, count) in
    let most = few_in (fin.len a + 1) more m (fin.entries more) refl size all_more in
    omega (arith, most, few)

-- ---- names that are taken out

module _ (old_latest new new_latest : NameMarks) where
  abbrev pub goes : List ℕ × Option ℕ → Bool
  goes e = is_gone old_latest new new_latest e

  abbrev pub without : Entries → NameMarks → NameMarks
  without [] m = m
  without (e ∷ es) m = without es (if goes e then fin.remove m e.0 else m)

  pub gone_do : (es : Entries) (k : KeptParts)
      → after_each (flat_map (gone_of old_latest new new_latest) es) k
      ≡ Ok (holding k (without es k.marks) (without es k.marked))
  gone_do [] k = refl
  gone_do (e ∷ es) k = elim (cases_Bool (goes e)) [
    | inl out ↦
        rw out (gone_do es (holding k (fin.remove k.marks e.0) (fin.remove k.marked e.0)))
    | inr stays ↦ rw stays (gone_do es k)
  ]

  -- whether the name of an entry goes
  abbrev pub goes_at : List ℕ → Option (Option ℕ) → Bool
  goes_at q None = false
  goes_at q (Some v) = goes (q, v)

  get_without : (es : Entries) (m : NameMarks) (q : List ℕ) → T (is_sorted bytes_cmp es)
      → fin.get (without es m) q
      ≡ (if goes_at q (find bytes_cmp q es) then None else fin.get m q)
  get_without [] m q sorted = refl
  get_without (e ∷ es) m q sorted =
      let rest = λ (n : NameMarks). get_without es n q (later_sorted e es sorted) in
      elim (cases_Bool (eq_by_cmp bytes_cmp q e.0)) [
        | inl same ↦
            let key : q ≡ e.0 = same_key q e.0 same in
            let later : find bytes_cmp q es ≡ None =
            rw key (first_once e.0 e.1 es sorted) in
            let whole : goes (q, e.1) ≡ goes e =
            ap (λ (k : List ℕ). goes (k, e.1)) key in
            elim (cases_Bool (goes e)) [
              | inl out ↦
                  let gone_now : fin.get (fin.remove m e.0) q ≡ None =
                  get-remove nat_list_cmp_total m e.0 q ∙ rw same refl in
                  rw (out, rest (fin.remove m e.0), later, same, whole, out) gone_now
              | inr stays ↦ rw (stays, rest m, later, same, whole, stays) refl
            ]
        | inr differs ↦ elim (cases_Bool (goes e)) [
          | inl out ↦
              let stays_now : fin.get (fin.remove m e.0) q ≡ fin.get m q =
              get-remove nat_list_cmp_total m e.0 q ∙ rw differs refl in
              rw (out, rest (fin.remove m e.0), differs, stays_now) refl
          | inr stays ↦ rw (stays, rest m, differs) refl
        ]
      ]

-- ---- names that changed

named_new : (x : List ℕ) (m : NameMarks) → fin.get m x ≡ None → fin.len m < 64
    → named x m ≡ Ok (fin.insert m x None)
named_new x m none few =
    let room : nat_le 64 (fin.len m) ≡ false = grind (arith, nat_tests, few) in
    rw (none, room) refl

named_known : (x : List ℕ) (v : Option ℕ) (m : NameMarks) → fin.get m x ≡ Some v
    → named x m ≡ Ok m
named_known x v m is = rw is refl

counted_new : (x : List ℕ) (n : ℕ) (m : NameMarks) → fin.get m x ≡ None → fin.len m < 64
    → counted x n m ≡ Ok (fin.insert m x (Some n))
counted_new x n m none few = rw (named_new x m none few, marked_new x n m) refl

counted_known : (x : List ℕ) (v : Option ℕ) (n : ℕ) (m : NameMarks) → fin.get m x ≡ Some v
    → counted x n m ≡ Ok (fin.insert m x (Some n))
counted_known x v n m is = rw (named_known x v m is) (rw is refl)

marked_first : (x : List ℕ) (n : ℕ) (m : NameMarks) → fin.get m x ≡ None → fin.len m < 64
    → marked x n m ≡ Ok (fin.insert m x (Some n))
marked_first x n m none few =
    let there : fin.get (fin.insert m x None) x ≡ Some None =
    get-insert nat_list_cmp_total m x None x ∙ rw (itself x) refl in
    rw (named_new x m none few)
    (rw there (ap (λ (k : NameMarks). Ok k) (marked_new x n m)))

mark_known : (x : List ℕ) (v : Option ℕ) (n : ℕ) (m : NameMarks) → fin.get m x ≡ Some v
    → with_mark x n m ≡ fin.insert m x (Some n)
mark_known x v n m is = rw is refl

marked_known : (x : List ℕ) (v : Option ℕ) (n : ℕ) (m : NameMarks) → fin.get m x ≡ Some v
    → rises v (Some n) ≡ true → marked x n m ≡ Ok (fin.insert m x (Some n))
marked_known x None n m is up =
    let mark_is : mark_of x m ≡ None = rw is refl in
    ap (then_marked x n) (named_known x None m is)
    ∙ ap (λ (o : Option ℕ). marked_at x n o m) mark_is
    ∙ ap (λ (k : NameMarks). Ok k) (mark_known x None n m is)
marked_known x (Some b) n m is up =
    let mark_is : mark_of x m ≡ Some b = rw is refl in
    ap (then_marked x n) (named_known x (Some b) m is)
    ∙ ap (λ (o : Option ℕ). marked_at x n o m) mark_is
    ∙ rw up (ap (λ (k : NameMarks). Ok k) (mark_known x (Some b) n m is))

-- what its sessions were given
seen_do : (k : KeptParts) (a b : NameMarks) (x : List ℕ) (v s : Option ℕ)
    → after_each (seen_records x s) (holding k (fin.insert a x v) (fin.insert b x v))
    ≡ Ok (holding k (fin.insert a x (counting_one v s)) (fin.insert b x v))
seen_do k a b x v None = refl
seen_do k a b x v (Some n) = rw (counted_there x v n a, named_there x v b) refl

abbrev change_does : KeptParts → NameMarks → NameMarks → List ℕ → Option ℕ → Option ℕ → Type 0
change_does k a b x v s =
    after_each (name_record x v ∷ seen_records x s) (holding k a b)
    ≡ Ok (holding k (fin.insert a x (counting_one v s)) (fin.insert b x v))

new_does : (k : KeptParts) (a b : NameMarks) (x : List ℕ) (v s : Option ℕ) → fin.get a x ≡ None
    → fin.get b x ≡ None → fin.len a < 64 → fin.len b < 64 → change_does k a b x v s
new_does k a b x None s no_a no_b few_a few_b =
    rw (named_new x a no_a few_a, named_new x b no_b few_b) (seen_do k a b x None s)
new_does k a b x (Some n) s no_a no_b few_a few_b =
    rw (counted_new x n a no_a few_a, marked_first x n b no_b few_b) (seen_do k a b x (Some n) s)

-- a name that had these numbers, after which the others may come
known_does : (k : KeptParts) (a b : NameMarks) (x : List ℕ) (w g v s : Option ℕ)
    → fin.get a x ≡ Some (counting_one w g) → fin.get b x ≡ Some w
    → can_follow w g v s ≡ true → change_does k a b x v s
known_does k a b x (Some m) g None s is_a is_b can = absurd cc
known_does k a b x None (Some m) None None is_a is_b can = absurd cc
known_does k a b x None None None None is_a is_b can =
    let kept : after (name x) (holding k a b) ≡ Ok (holding k a b) =
    rw (named_known x None a is_a, named_known x None b is_b) refl in
    ap (then_after (after_each [])) kept
    ∙ ap (λ (m : NameMarks). Ok (holding k m b)) (sym (insert_same a x None is_a))
    ∙ ap (λ (m : NameMarks). Ok (holding k (fin.insert a x None) m))
    (sym (insert_same b x None is_b))
known_does k a b x None g None (Some n) is_a is_b can =
    let kept : after (name x) (holding k a b) ≡ Ok (holding k a b) =
    rw (named_known x (counting_one None g) a is_a, named_known x None b is_b) refl in
    let given : after (seen x n) (holding k a b) ≡ Ok (holding k (fin.insert a x (Some n)) b) =
    rw (counted_known x (counting_one None g) n a is_a, named_known x None b is_b) refl in
    ap (then_after (after_each (seen x n ∷ []))) kept ∙ ap (then_after (after_each [])) given
    ∙ ap (λ (m : NameMarks). Ok (holding k (fin.insert a x (Some n)) m))
    (sym (insert_same b x None is_b))
known_does k a b x w g (Some n) s is_a is_b can =
    let up : rises w (Some n) ≡ true = grind (arith, can) in
    rw (counted_known x (counting_one w g) n a is_a, marked_known x w n b is_b up)
    (seen_do k a b x (Some n) s)

module _ (old old_latest new new_latest : NameMarks) where
  abbrev pub changes : List ℕ × Option ℕ → Bool
  changes e = is_changed old old_latest new_latest e

  abbrev pub counts : List ℕ × Option ℕ → Option ℕ
  counts e = counting_one e.1 (mark_of e.0 new_latest)

  abbrev pub mark_in : List ℕ × Option ℕ → Option ℕ
  mark_in e = e.1

  -- a map with the entries that changed, each with this number
  abbrev pub put : (List ℕ × Option ℕ → Option ℕ) → Entries → NameMarks → NameMarks
  put f [] m = m
  put f (e ∷ es) m = put f es (if changes e then fin.insert m e.0 (f e) else m)

  abbrev pub put_at : (List ℕ × Option ℕ → Option ℕ) → List ℕ → Option (Option ℕ)
      → Option (Option ℕ) → Option (Option ℕ)
  put_at f q None before = before
  put_at f q (Some v) before = if changes (q, v) then Some (f (q, v)) else before

  pub get_put : (f : List ℕ × Option ℕ → Option ℕ) (es : Entries) (m : NameMarks) (q : List ℕ)
      → T (is_sorted bytes_cmp es)
      → fin.get (put f es m) q ≡ put_at f q (find bytes_cmp q es) (fin.get m q)
  get_put f [] m q sorted = refl
  get_put f (e ∷ es) m q sorted =
      let rest = λ (n : NameMarks). get_put f es n q (later_sorted e es sorted) in
      elim (cases_Bool (eq_by_cmp bytes_cmp q e.0)) [
        | inl same ↦
            let key : q ≡ e.0 = same_key q e.0 same in
            let later : find bytes_cmp q es ≡ None =
            rw key (first_once e.0 e.1 es sorted) in
            let whole : changes (q, e.1) ≡ changes e =
            ap (λ (k : List ℕ). changes (k, e.1)) key in
            elim (cases_Bool (changes e)) [
              | inl now ↦
                  let is : fin.get (fin.insert m e.0 (f e)) q ≡ Some (f e) =
                  get-insert nat_list_cmp_total m e.0 (f e) q ∙ rw same refl in
                  rw (now, rest (fin.insert m e.0 (f e)), later, same, whole, now)
                  (is ∙ ap (λ (k : List ℕ). Some (f (k, e.1))) (sym key))
              | inr stays ↦ rw (stays, rest m, later, same, whole, stays) refl
            ]
        | inr differs ↦ elim (cases_Bool (changes e)) [
          | inl now ↦
              let is : fin.get (fin.insert m e.0 (f e)) q ≡ fin.get m q =
              get-insert nat_list_cmp_total m e.0 (f e) q ∙ rw differs refl in
              rw (now, rest (fin.insert m e.0 (f e)), differs, is) refl
          | inr stays ↦ rw (stays, rest m, differs) refl
        ]
      ]

  -- a name is new, or its numbers are such that those of now may come after them
  abbrev pub Fits : NameMarks → NameMarks → List ℕ → Option ℕ → Type 0
  Fits a b q v =
      ((fin.get a q ≡ None) × (fin.get b q ≡ None))
      ⊎ ((w : Option ℕ) × (g : Option ℕ) × (fin.get a q ≡ Some (counting_one w g))
      × (fin.get b q ≡ Some w) × (can_follow w g v (mark_of q new_latest) ≡ true))

  pub record Ready (es : Entries) (a b : NameMarks) : Type 0 where
    pub a_in : IsIn a new
    pub b_in : IsIn b new
    pub are : (q : List ℕ) (v : Option ℕ) → find bytes_cmp q es ≡ Some v → fin.get new q ≡ Some v
    pub fits : (q : List ℕ) (v : Option ℕ) → find bytes_cmp q es ≡ Some v → Fits a b q v

  found_first : (x : List ℕ) (v : Option ℕ) (es : Entries)
      → find bytes_cmp x ((x, v) ∷ es) ≡ Some v
  found_first x v es = rw (itself x) refl

  -- one name
  one_does : (k : KeptParts) (a b : NameMarks) (x : List ℕ) (v : Option ℕ) (es : Entries)
      → fin.len new ≤ 64 → Ready ((x, v) ∷ es) a b
      → change_does k a b x v (mark_of x new_latest)
  one_does k a b x v es few r =
      let here : fin.contains_key new x ≡ true = rw (r.are x v (found_first x v es)) refl in
      elim (r.fits x v (found_first x v es)) [
        | inl none ↦
            new_does k a b x v (mark_of x new_latest) none.0 none.1
            (room_in a new x r.a_in here none.0 few) (room_in b new x r.b_in here none.1 few)
        | inr some ↦
            known_does k a b x some.0 some.1 v (mark_of x new_latest) some.2 some.3 some.4
      ]

  inserted_in : (m : NameMarks) (x : List ℕ) (v : Option ℕ) → IsIn m new
      → fin.contains_key new x ≡ true → IsIn (fin.insert m x v) new
  inserted_in m x v all here q there = elim (cases_Bool (eq_by_cmp bytes_cmp q x)) [
    | inl same ↦
        subst (λ (k : List ℕ). fin.contains_key new k ≡ true) (sym (same_key q x same)) here
    | inr differs ↦
        all q (grind (arith, there, differs, get-insert nat_list_cmp_total m x v q))
  ]

  fits_still : (a b : NameMarks) (x : List ℕ) (u w : Option ℕ) (q : List ℕ) (v : Option ℕ)
      → eq_by_cmp bytes_cmp q x ≡ false → Fits a b q v
      → Fits (fin.insert a x u) (fin.insert b x w) q v
  fits_still a b x u w q v differs fits =
      let same_a : fin.get (fin.insert a x u) q ≡ fin.get a q =
      get-insert nat_list_cmp_total a x u q ∙ rw differs refl in
      let same_b : fin.get (fin.insert b x w) q ≡ fin.get b q =
      get-insert nat_list_cmp_total b x w q ∙ rw differs refl in
      elim fits [
        | inl none ↦ inl (same_a ∙ none.0, same_b ∙ none.1)
        | inr some ↦ inr (some.0, some.1, same_a ∙ some.2, same_b ∙ some.3, some.4)
      ]

  ready_on : (x : List ℕ) (v : Option ℕ) (es : Entries) (a b : NameMarks)
      → T (is_sorted bytes_cmp ((x, v) ∷ es)) → Ready ((x, v) ∷ es) a b → Ready es a b
  ready_on x v es a b sorted r = record {
    a_in = r.a_in;
    b_in = r.b_in;
    are = λ q w there. r.are q w (find_later x q v w es sorted there);
    fits = λ q w there. r.fits q w (find_later x q v w es sorted there);
  }

  ready_with : (x : List ℕ) (v u w : Option ℕ) (es : Entries) (a b : NameMarks)
      → T (is_sorted bytes_cmp ((x, v) ∷ es)) → Ready ((x, v) ∷ es) a b
      → Ready es (fin.insert a x u) (fin.insert b x w)
  ready_with x v u w es a b sorted r =
      let here : fin.contains_key new x ≡ true = rw (r.are x v (found_first x v es)) refl in
      let rest = ready_on x v es a b sorted r in
      record {
        a_in = inserted_in a x u r.a_in here;
        b_in = inserted_in b x w r.b_in here;
        are = rest.are;
        fits = λ q y there.
            fits_still a b x u w q y (later_differs x q v y es sorted there)
            (rest.fits q y there);
      }

  pub changed_do : (es : Entries) (k : KeptParts) (a b : NameMarks) → T (is_sorted bytes_cmp es)
      → fin.len new ≤ 64 → Ready es a b
      → after_each (flat_map (changed_of old old_latest new_latest) es) (holding k a b)
      ≡ Ok (holding k (put counts es a) (put mark_in es b))
  changed_do [] k a b sorted few r = refl
  changed_do (e ∷ es) k a b sorted few r =
      let later = later_sorted e es sorted in
      elim (cases_Bool (changes e)) [
        | inl now ↦
            let s = mark_of e.0 new_latest in
            let one = one_does k a b e.0 e.1 es few r in
            let rest = changed_do es k (fin.insert a e.0 (counting_one e.1 s))
            (fin.insert b e.0 e.1) later few
            (ready_with e.0 e.1 (counting_one e.1 s) e.1 es a b sorted r) in
            rw now
            (after_two (name_record e.0 e.1 ∷ seen_records e.0 s)
            (flat_map (changed_of old old_latest new_latest) es) (holding k a b)
            (holding k (fin.insert a e.0 (counting_one e.1 s)) (fin.insert b e.0 e.1)) one
            ∙ rest)
        | inr stays ↦ rw stays (changed_do es k a b later few (ready_on e.0 e.1 es a b sorted r))
      ]

  -- ---- all names

  abbrev pub kept_a : NameMarks
  kept_a = without old_latest new new_latest (fin.entries old) (counting old old_latest)

  abbrev pub kept_b : NameMarks
  kept_b = without old_latest new new_latest (fin.entries old) old

  pub get_old : (m : NameMarks) (q : List ℕ)
      → fin.get (without old_latest new new_latest (fin.entries old) m) q
      ≡ (if goes_at old_latest new new_latest q (fin.get old q) then None else fin.get m q)
  get_old m q =
      get_without old_latest new new_latest (fin.entries old) m q (entries_sorted old)
      ∙ ap (λ (o : Option (Option ℕ)). if goes_at old_latest new new_latest q o then None
      else fin.get m q) (sym (get-entries old q))

-- the number that counts for a name
find_counting : (latest : NameMarks) (es : Entries) (q : List ℕ)
    → find bytes_cmp q (counting_all latest es)
    ≡ option_map (λ v. counting_one v (mark_of q latest)) (find bytes_cmp q es)
find_counting latest [] q = refl
find_counting latest (e ∷ es) q = elim (cases_Bool (eq_by_cmp bytes_cmp q e.0)) [
  | inl same ↦
      rw same (ap (λ (k : List ℕ). Some (counting_one e.1 (mark_of k latest)))
      (sym (same_key q e.0 same)))
  | inr differs ↦ rw differs (find_counting latest es q)
]

pub get_counting : (m latest : NameMarks) (q : List ℕ)
    → fin.get (counting m latest) q
    ≡ option_map (λ v. counting_one v (mark_of q latest)) (fin.get m q)
get_counting m latest q =
    get-from_entries nat_list_cmp_total (counting_all latest (fin.entries m)) q
    ∙ find_counting latest (fin.entries m) q
    ∙ ap (option_map (λ (v : Option ℕ). counting_one v (mark_of q latest))) (sym (get-entries m q))
