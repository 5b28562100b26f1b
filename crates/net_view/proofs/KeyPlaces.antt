-- The entries of a map by place, in any order of keys: the least above a key, again and again.
use Rattle.std.specs.FinMap as fin
use Rattle.{net_view.proofs.Words.{◌+◌, ◌<◌, ◌∷◌, ◌≡◌, Bool, List, None, []}, std.proofs.Common.◌≤◌}
use Rattle.net_view.proofs.Words.{Option, Ordering, Some, arith, cond, is_some, length, option_map}
use Rattle.net_view.{proofs.Words.{refl, slice_get, suc, true, ℕ}, specs.Least.{IsNextBy, above_by}}
use Rattle.std.proofs.lemmas.Option.{slice_get_cases, slice_get_past, slice_get_within}
use Rattle.std.specs.{Cmp.IsTotalOrder, FinMap.Entries.below_all, Option.IfSome, Ordering.is_lt}

-- the keys that pass a test, by place, in their order
pub record ArePlaces {K : Type 0} (R : K → K → Ordering) (there : K → Bool) (at : ℕ → Option K)
    (count : ℕ) : Type 0 where
  pub zero : (best : Option K) → IsNextBy R there None best → best ≡ at 0
  pub next : (j : ℕ) (k : K) (best : Option K) → Some k ≡ at j → IsNextBy R there (Some k) best
      → best ≡ at (j + 1)
  pub none : (j i : ℕ) → None ≡ at j → j ≤ i → None ≡ at i
  pub below : (j : ℕ) (k : K) → Some k ≡ at j → j < count
  pub end : (j : ℕ) → None ≡ at j → j ≤ count → j ≡ count

abbrev key : {K X : Type 0} → Option (K × X) → Option K
key o = option_map (λ e. e.0) o

-- the first entry above the given key, of entries whose keys rise
abbrev first_above : {K X : Type 0} → (K → K → Ordering) → Option K → List (K × X) → Option (K × X)
first_above R after [] = None
first_above R after (e ∷ es) = cond (above_by R after e.0) (Some e) (first_above R after es)

module _ {K : Type 0} {R : K → K → Ordering} (o : IsTotalOrder R) (exact : fin.IsAntisymmetric R)
    {X : Type 0} where
  below_found : (k b : K) (es : List (K × X)) → below_all R k es ≡ true
      → is_some (fin.find R b es) ≡ true → is_lt (R k b) ≡ true
  below_found k b [] h f = cc
  below_found k b (e ∷ es) h f = grind (arith, below_found k b es)

  is_first : (es : List (K × X)) (after best : Option K) → fin.is_sorted R es ≡ true
      → IsNextBy R (λ c. is_some (fin.find R c es)) after best → best ≡ key (first_above R after es)
  is_first [] after best sorted h = grind arith
  is_first (e ∷ es) after best sorted h = grind (arith, below_found, is_first es after best)

  -- the first entry above a key that is below all of them
  first_here : (es : List (K × X)) (after : Option K)
      → IfSome after (λ k. below_all R k es ≡ true) → first_above R after es ≡ slice_get es 0
  first_here [] after h = refl
  first_here (e ∷ es) after h = grind arith

  -- what is found at the key of an entry
  found_at : (es : List (K × X)) (j : ℕ) (x : K × X) → fin.is_sorted R es ≡ true
      → slice_get es j ≡ Some x → fin.find R x.0 es ≡ Some x.1
  found_at [] j x sorted e = cc
  found_at (y ∷ es) j x sorted e = grind (arith, below_found y.0 x.0 es, found_at es)

  -- the entry after the one at a place
  next_place : (es : List (K × X)) (j : ℕ) (x : K × X) → fin.is_sorted R es ≡ true
      → slice_get es j ≡ Some x → first_above R (Some x.0) es ≡ slice_get es (suc j)
  next_place [] j x sorted e = cc
  next_place (y ∷ es) j x sorted e =
      grind (arith, first_here, below_found y.0 x.0 es, found_at es, next_place es)

  module _ (m : fin.FinMap R X) where
    abbrev es : List (K × X)
    es = fin.entries m

    abbrev at : ℕ → Option K
    at j = key (slice_get es j)

    -- a map has at its entries' keys what is beside them
    pub entry_at : (j : ℕ) (x : K × X) → slice_get es j ≡ Some x → fin.get m x.0 ≡ Some x.1
    entry_at j x e = grind (arith, fin.get-entries, found_at, fin.entries_sorted)

    -- the keys of a map are in their places
    pub places : (there : K → Bool) → ((c : K) → is_some (fin.get m c) ≡ there c)
        → ArePlaces R there at (length es)
    places there is = record {
      zero = λ best h.
          grind (arith, is_first es None best, fin.entries_sorted m, fin.get-entries, first_here);
      next = λ j k best e h.
          let first = is_first es (Some k) best in
          grind (arith, first, fin.entries_sorted m, fin.get-entries, next_place es j);
      none = λ j i e h. grind (arith, slice_get_cases es j, slice_get_past {X = K × X});
      below = λ j k e. grind (arith, slice_get_within);
      end = λ j e h. grind (arith, slice_get_cases es j);
    }
