-- Entries in the order of their keys, by places: what an insertion, a write and a removal at a
-- place make of a finite map.
use Rattle.net_view.proofs.Words
use Rattle.std.specs.FinMap as fin
use Words.{◌<◌, ◌∷◌, ◌≡◌, Bool, List, None, Option, Ordering, Some, [], ap, arith, cond, eq_by_cmp}
use Words.{false, length, refl, suc, sym, ℕ}
use Rattle.std.{proofs.Common.{◌∙◌, get_or, set}, specs.{List.remove, Prelude.{◌≤◌, T, not, zero}}}
use Rattle.std.specs.{Cmp.{IsTotalOrder, eq_by_cmp_equiv, tied_itself}, Ordering.ordering_reverse}
use Rattle.std.specs.FinMap.Entries.{below_all, find-where_key, is_sorted-where_key, where_key}
use Rattle.std.specs.{List.insert, declared.cmp.Ordering.TheVariants.{Equal, Greater, Less}}

module _ {K X : Type 0} (R : K → K → Ordering) where
  -- a key below all is below each
  below_at : (x : K) (es : List (K × X)) → T (below_all R x es) → (i : ℕ) (d : K × X)
      → i < length es → R x (get_or es i d).0 ≡ Less
  below_at x [] h i d l = absurd (omega arith)
  below_at x (e ∷ es) h zero d l = grind arith
  below_at x (e ∷ es) h (suc i) d l = grind (arith, below_at x es)

  -- keys in order rise from place to place
  pub rise : (es : List (K × X)) → T (fin.is_sorted R es) → (i j : ℕ) (d : K × X) → i < j
      → j < length es → R (get_or es i d).0 (get_or es j d).0 ≡ Less
  rise [] h i j d l m = absurd (omega arith)
  rise (e ∷ es) h i zero d l m = absurd (omega arith)
  rise (e ∷ es) h zero (suc j) d l m = grind (arith, below_at e.0 es)
  rise (e ∷ es) h (suc i) (suc j) d l m = grind (arith, rise es)

pub turned : {K : Type 0} {R : K → K → Ordering} → IsTotalOrder R → (x y : K) (r : Ordering)
    → R x y ≡ r → R y x ≡ ordering_reverse r
turned o x y r e = o.antisymm y x ∙ ap ordering_reverse e

-- all keys before the place are below k, and all from it on above
pub record IsPlace {K X : Type 0} (R : K → K → Ordering) (es : List (K × X)) (k : K) (i : ℕ) :
    Type 0 where
  pub within : i ≤ length es
  pub below : (j : ℕ) (d : K × X) → j < i → R (get_or es j d).0 k ≡ Less
  pub above : (j : ℕ) (d : K × X) → i ≤ j → j < length es → R (get_or es j d).0 k ≡ Greater

-- entries in the order of their keys, and the map that they make
pub record AreOf {K X : Type 0} {R : K → K → Ordering} (es : List (K × X)) (m : fin.FinMap R X) :
    Type 0 where
  pub sorted : T (fin.is_sorted R es)
  pub is : fin.from_sorted es ≡ m

module _ {K X : Type 0} {R : K → K → Ordering} (o : IsTotalOrder R) where
  place_tail : (e : K × X) (es : List (K × X)) (k : K) (i : ℕ) → IsPlace R (e ∷ es) k (suc i)
      → IsPlace R es k i
  place_tail e es k i p = record {
    within = let w = p.within in omega arith;
    below = λ j d l. p.below (suc j) d (omega arith);
    above = λ j d l m. p.above (suc j) d (omega arith) (omega arith);
  }

  -- an entry whose key is new goes in at its place
  pub put_between : (es : List (K × X)) (k : K) (v : X) (i : ℕ) → IsPlace R es k i
      → fin.put R k v es ≡ insert es i (k, v)
  put_between [] k v zero p = refl
  put_between [] k v (suc i) p = let w = p.within in absurd (omega arith)
  put_between (e ∷ es) k v zero p =
      grind (arith, turned o e.0 k Greater (p.above zero e (omega arith) (omega arith)))
  put_between (e ∷ es) k v (suc i) p =
      let later = put_between es k v i (place_tail e es k i p) in
      grind (arith, turned o e.0 k Less (p.below zero e (omega arith)))

  pub find_between : (es : List (K × X)) (k : K) (i : ℕ) → IsPlace R es k i
      → fin.find R k es ≡ None
  find_between [] k i p = refl
  find_between (e ∷ es) k zero p =
      let later = find_between es k zero (record {
        within = omega arith;
        below = λ j d l. absurd (omega arith);
        above = λ j d l m. p.above (suc j) d (omega arith) (omega arith);
      }) in
      grind (arith, turned o e.0 k Greater (p.above zero e (omega arith) (omega arith)))
  find_between (e ∷ es) k (suc i) p =
      let later = find_between es k i (place_tail e es k i p) in
      grind (arith, turned o e.0 k Less (p.below zero e (omega arith)))

  -- the key at a later place is above the first
  above_first : (e : K × X) (es : List (K × X)) → T (fin.is_sorted R (e ∷ es)) → (i : ℕ)
      (d : K × X) → i < length es → R (get_or es i d).0 e.0 ≡ Greater
  above_first e es h i d l =
      grind (arith, turned o e.0 (get_or es i d).0 Less, below_at R e.0 es)

  -- the entry at a place is found by its key
  pub find_at : (es : List (K × X)) → T (fin.is_sorted R es) → (i : ℕ) (d : K × X)
      → i < length es → fin.find R (get_or es i d).0 es ≡ Some (get_or es i d).1
  find_at [] h i d l = absurd (omega arith)
  find_at (e ∷ es) h zero d l = grind (arith, tied_itself o e.0)
  find_at (e ∷ es) h (suc i) d l =
      grind (arith, above_first e es h i d, find_at es)

  -- a write at the place of the key
  pub put_at : (es : List (K × X)) → T (fin.is_sorted R es) → (i : ℕ) (d : K × X) (v : X)
      → i < length es → fin.put R (get_or es i d).0 v es ≡ set es i ((get_or es i d).0, v)
  put_at [] h i d v l = absurd (omega arith)
  put_at (e ∷ es) h zero d v l = grind (arith, tied_itself o e.0)
  put_at (e ∷ es) h (suc i) d v l =
      grind (arith, above_first e es h i d, put_at es)

  -- nobody is lost if no key ties
  kept_all : (k : K) (es : List (K × X))
      → ((i : ℕ) (d : K × X) → i < length es → eq_by_cmp R k (get_or es i d).0 ≡ false)
      → where_key R (λ x. not (eq_by_cmp R k x)) es ≡ es
  kept_all k [] h = refl
  kept_all k (e ∷ es) h =
      let later = kept_all k es (λ i d l. h (suc i) d (omega arith)) in
      grind (arith, h zero e (omega arith))

  -- the entry at a place goes
  pub without_at : (es : List (K × X)) → T (fin.is_sorted R es) → (i : ℕ) (d : K × X)
      → i < length es → where_key R (λ x. not (eq_by_cmp R (get_or es i d).0 x)) es ≡ remove es i
  without_at [] h i d l = absurd (omega arith)
  without_at (e ∷ es) h zero d l =
      let kept = kept_all e.0 es (λ i d l. grind (arith, below_at R e.0 es)) in
      grind (arith, tied_itself o e.0)
  without_at (e ∷ es) h (suc i) d l =
      let sorted : T (fin.is_sorted R es) = grind arith in
      let later = without_at es sorted i d (omega arith) in grind (arith, above_first e es h i d)

  mirrored : (b : Bool) (x : Option X) → cond (not b) x None ≡ cond b None x
  mirrored b x = grind arith

  -- ---- the same of maps

  of_entries : (m : fin.FinMap R X) (es : List (K × X)) → fin.entries m ≡ es → AreOf es m
  of_entries m es e =
      let sorted = rw e at (fin.entries_sorted m) in
      record {
        sorted = sorted;
        is = fin.same_entries_map _ m (fin.entries-from_sorted R es sorted ∙ sym e);
      }

  module _ (es : List (K × X)) (h : T (fin.is_sorted R es)) where
    pub inserted : (k : K) (v : X) (i : ℕ) → IsPlace R es k i
        → AreOf (insert es i (k, v)) (fin.insert (fin.from_sorted {R = R} es) k v)
    inserted k v i p =
        of_entries _ _ (rw (fin.entries-insert o, fin.entries-from_sorted R es h)
        (put_between es k v i p))

    pub written : (i : ℕ) (d : K × X) (v : X) → i < length es
        → AreOf (set es i ((get_or es i d).0, v))
        (fin.insert (fin.from_sorted {R = R} es) (get_or es i d).0 v)
    written i d v l =
        of_entries _ _ (rw (fin.entries-insert o, fin.entries-from_sorted R es h)
        (put_at es h i d v l))

    pub removed : fin.IsAntisymmetric R → (i : ℕ) (d : K × X) → i < length es
        → AreOf (remove es i) (fin.remove (fin.from_sorted {R = R} es) (get_or es i d).0)
    removed exact i d l =
        let k = (get_or es i d).0 in
        let keeps : K → Bool = λ x. not (eq_by_cmp R k x) in
        let sorted = rw (without_at es h i d l) at (is_sorted-where_key R keeps es h) in
        record {
          sorted = sorted;
          is = fin.same_map o exact _ _ (λ q.
              let alike = λ (x : K) (t : R q x ≡ Equal). ap keeps (sym (exact q x t)) in
              let left = fin.get-from_sorted R (remove es i) q sorted in
              let found = find-where_key R keeps q alike es in
              let same = mirrored (eq_by_cmp R k q) (fin.find R q es) in
              let out = fin.get-remove o (fin.from_sorted es) k q in
              let at = fin.get-from_sorted R es q h in
              cc (without_at es h i d l, (eq_by_cmp_equiv o).symm k q));
        }
