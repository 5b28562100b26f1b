-- What a binary search by key finds among entries in the order of their keys.
use Rattle.std.specs.FinMap as fin
use Rattle.{network_tables.proofs.Sorted.{IsPlace, rise, turned}, std.proofs.Common.{◌+◌, ◌<◌, ◌∷◌}}
use Rattle.std.proofs.Common.{◌≡◌, ◌≤◌, Err, Less, List, Ordering, T, [], ap, arith, get_or, is_lt}
use Rattle.std.proofs.{Common.{length, map, refl, suc, zero, ℕ}, lemmas.List.get_or-map}
use Rattle.std.proofs.lemmas.List.{length-map, Sorted.searchable_from_sorted}
use Rattle.std.specs.{Cmp.IsTotalOrder, List.Sorted.{IsBinarySearchResult, IsSortedBy}}

module _ {K X Y : Type 0} {R : K → K → Ordering} (o : IsTotalOrder R) (f : X → K × Y) where
  at : (xs : List X) (i : ℕ) (d : X) → i < length xs
      → get_or (map f xs) i (f d) ≡ f (get_or xs i d)
  at xs i d l = get_or-map f xs i d (f d) l

  -- the element at a place of the entries, whatever stands for a missing one
  mapped : (xs : List X) (j : ℕ) (e : K × Y) → j < length xs
      → (x : X) × ((d : X) → get_or xs j d ≡ x) × (get_or (map f xs) j e ≡ f x)
  mapped [] j e l = absurd (omega arith)
  mapped (x ∷ xs) zero e l = (x, λ d. refl, refl)
  mapped (x ∷ xs) (suc j) e l = mapped xs j e (omega arith)

  climbs : (xs : List X) → T (fin.is_sorted R (map f xs))
      → IsSortedBy (λ a b. is_lt (R (f a).0 (f b).0)) xs
  climbs xs h = λ k d low high.
      let n : k + 1 < length (map f xs) = omega (arith, length-map xs f) in
      let up = rise R (map f xs) h k (k + 1) (f d) (omega arith) n in
      ap is_lt (turned o _ _ Less (rw (at xs k d (omega arith), at xs (k + 1) d high) at up))

  -- if the key is new
  pub free_place : (xs : List X) (key : K) (i : ℕ) → T (fin.is_sorted R (map f xs))
      → i ≤ length xs → IsBinarySearchResult (λ x. R (f x).0 key) xs (Err i)
      → IsPlace R (map f xs) key i
  free_place xs key i h within found =
      let parts = found (searchable_from_sorted o (λ x. (f x).0) xs key (climbs xs h)) in
      let long = length-map xs f in
      record {
        within = omega (arith, long);
        below = λ j e l.
            let m = mapped xs j e (omega arith) in
            rw m.2 (rw (m.1 (m.0)) at (parts.0 j (m.0) (omega arith) l));
        above = λ j e l k.
            let m = mapped xs j e (omega (arith, long)) in
            rw m.2 (rw (m.1 (m.0)) at (parts.1 j (m.0) l (omega (arith, long))));
      }
