-- The marks of a table's keys, by what becomes of its entries.
use Rattle.net_view.proofs.Words
use Rattle.std.specs.FinMap as fin
use Words.{◌+◌, ◌<◌, ◌∷◌, ◌≡◌, Bool, List, None, Text, [], arith, bytes_cmp, false, is_some, length}
use Words.{map, refl, suc, true, ℕ}
use Rattle.{net_view.proofs.AfterAlike.{is_same, look_ups}, std.specs.Prelude.{T, zero}}
use Rattle.network_tables.{proofs.ShownLemmas.contains-shown, specs.{Head.head_of, Shown.shown}}
use Rattle.{network_tables.specs.Marks.{AreMarked, is_marked, mark_of}, std.proofs.Common.get_or}
use Rattle.std.proofs.{Common.set, lemmas.{Bool.cases_eq, List.{get_or-set_other, get_or_default}}}

-- a mark that is put up is up, and the others are as they were
up_there : (marks : List Bool) (i : ℕ) → get_or (set marks i true) i true ≡ true
up_there [] i = refl
up_there (m ∷ marks) zero = refl
up_there (m ∷ marks) (suc i) = up_there marks i

up_still : (marks : List Bool) (i j : ℕ) → get_or marks j true ≡ true
    → get_or (set marks i true) j true ≡ true
up_still marks i j up =
    grind (arith, cases_eq i j, up_there marks i, get_or-set_other marks i j true true)

module _ {X : Type 0} (marks : List Bool) (m : fin.FinMap bytes_cmp X)
    (marked : AreMarked marks m) where
  pub marked_inserted : (k : Text) (v : X)
      → AreMarked (set marks (mark_of (head_of k)) true) (fin.insert m k v)
  marked_inserted k v q has =
      let still = up_still marks (mark_of (head_of k)) (mark_of (head_of q)) in
      grind (look_ups, is_same q k, up_there marks (mark_of (head_of k)), marked q)

  pub marked_removed : (k : Text) → AreMarked marks (fin.remove m k)
  marked_removed k q has = grind (look_ups, marked q)

  pub marked_retained : (p : Text → Bool) → AreMarked marks (fin.retain_keys m p)
  marked_retained p q has = grind (look_ups, marked q)

  -- a value that is changed where it is leaves the keys
  pub marked_written : (k : Text) (v : X) → fin.contains_key m k ≡ true
      → AreMarked marks (fin.insert m k v)
  marked_written k v there q has = grind (look_ups, is_same q k, marked q, marked k)

  -- a key whose mark is down is not there
  pub not_there : (k : Text) → is_marked marks (head_of k) ≡ false → None ≡ fin.get m k
  not_there k down = grind (arith, marked k)

-- the same, by what the marks became
pub put_marked : {X : Type 0} (old new : List Bool) (m : fin.FinMap bytes_cmp X) (k : Text) (v : X)
    (head : ℕ) → AreMarked old m → new ≡ set old (mark_of head) true → head ≡ head_of k
    → AreMarked new (fin.insert m k v)
put_marked old new m k v head marked is head_is q has =
    grind (arith, marked_inserted old m marked k v q)

-- values that are shown otherwise leave the keys
pub marked_shown : {X Z : Type 0} (f : X → Z) (h : Z → Z) (marks : List Bool)
    (m n : fin.FinMap bytes_cmp X) → AreMarked marks m → shown f n ≡ shown h (shown f m)
    → AreMarked marks n
marked_shown f h marks m n marked e q has =
    let same = contains-shown bytes_cmp h (shown f m) q in
    marked q (cc (contains-shown bytes_cmp f m q, same, contains-shown bytes_cmp f n q))

pub none_marked : (X : Type 0) (marks : List Bool) → AreMarked {X = X} marks fin.empty
none_marked X marks q has = grind (arith, fin.get-empty {X = X} bytes_cmp q)

-- the marks of all of a list
module _ {E X : Type 0} (f : E → Text × X) (marks : List Bool) where
  found_marked : (xs : List E) → ((j : ℕ) (d : E) → j < length xs
      → is_marked marks (head_of (f (get_or xs j d)).0) ≡ true) → (q : Text)
      → is_some (fin.find bytes_cmp q (map f xs)) ≡ true → is_marked marks (head_of q) ≡ true
  found_marked [] each q has = cc
  found_marked (x ∷ xs) each q has =
      let first = each zero x (omega arith) in
      let rest = λ (j : ℕ) (d : E) (l : j < length xs). each (suc j) d (omega arith) in
      grind (arith, is_same q (f x).0, found_marked xs rest q)

  pub all_marked : (xs : List E) → T (fin.is_sorted bytes_cmp (map f xs)) → ((j : ℕ) (d : E)
      → j < length xs → is_marked marks (head_of (f (get_or xs j d)).0) ≡ true)
      → AreMarked marks (fin.from_sorted {R = bytes_cmp} (map f xs))
  all_marked xs h each q has =
      found_marked xs each q (cc (fin.get-from_sorted bytes_cmp (map f xs) q h))

  -- one more slot
  pub marked_next : (xs : List E) (new : List Bool) (i : ℕ) (x : E) (head : ℕ) → i < length xs
      → x ≡ get_or xs i x → head ≡ head_of (f x).0 → new ≡ set marks (mark_of head) true
      → ((j : ℕ) (d : E) → j < i → is_marked marks (head_of (f (get_or xs j d)).0) ≡ true)
      → (j : ℕ) (d : E) → j < i + 1 → is_marked new (head_of (f (get_or xs j d)).0) ≡ true
  marked_next xs new i x head l is head_is new_is marked j d m =
      let here = get_or_default xs i d x l in
      let still = up_still marks (mark_of head) (mark_of (head_of (f (get_or xs j d)).0)) in
      grind (arith, cases_eq j i, up_there marks (mark_of head), marked j d)
