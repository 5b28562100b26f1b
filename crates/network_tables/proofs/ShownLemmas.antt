-- The values of a map, shown in another way.
use Rattle.net_view.proofs.Words
use Rattle.std.specs.FinMap as fin
use Words.{◌∙◌, ◌∷◌, ◌≡◌, Bool, List, Ordering, [], ap, arith, length, map, option_map, refl, sym}
use Rattle.{network_tables.specs.Shown.shown, std.proofs.Common.{Equal, T, subst}}
use Rattle.std.{proofs.lemmas.List.length-map, specs.{Cmp.IsTotalOrder, FinMap.Entries.below_all}}

module _ {K X Y : Type 0} (R : K → K → Ordering) (f : X → Y) where
  abbrev as_shown : K × X → K × Y
  as_shown e = (e.0, f e.1)

  below_shown : (k : K) (es : List (K × X)) → below_all R k es ≡ below_all R k (map as_shown es)
  below_shown k [] = refl
  below_shown k (e ∷ es) = grind (arith, below_shown k es)

  pub sorted_shown : (es : List (K × X)) → fin.is_sorted R es ≡ fin.is_sorted R (map as_shown es)
  sorted_shown [] = refl
  sorted_shown (e ∷ es) = grind (arith, below_shown e.0 es, sorted_shown es)

  find_shown : (q : K) (es : List (K × X))
      → fin.find R q (map as_shown es) ≡ option_map f (fin.find R q es)
  find_shown q [] = refl
  find_shown q (e ∷ es) = grind (arith, find_shown q es)

  module _ (m : fin.FinMap R X) where
    sorted : T (fin.is_sorted R (map as_shown (fin.entries m)))
    sorted = subst T (sorted_shown (fin.entries m)) (fin.entries_sorted m)

    pub entries-shown : fin.entries (shown f m) ≡ map (λ e. (e.0, f e.1)) (fin.entries m)
    unfolding shown
    entries-shown = fin.entries-from_sorted R _ sorted

    pub get-shown : (q : K) → fin.get (shown f m) q ≡ option_map f (fin.get m q)
    unfolding shown
    get-shown q =
        cc (fin.get-from_sorted R _ q sorted, find_shown q (fin.entries m), fin.get-entries m q)

    pub contains-shown : (q : K) → fin.contains_key (shown f m) q ≡ fin.contains_key m q
    contains-shown q = grind (arith, get-shown q)

  pub empty-shown : shown f (fin.empty {X = X} {R = R}) ≡ fin.empty
  empty-shown =
      fin.empty_of_len _ (fin.len-entries _ ∙ ap length (entries-shown fin.empty)
      ∙ length-map (fin.entries fin.empty) as_shown ∙ sym (fin.len-entries fin.empty)
      ∙ fin.len-empty R X)

  module _ (o : IsTotalOrder R) (exact : fin.IsAntisymmetric R) (m : fin.FinMap R X) where
    pub insert-shown : (k : K) (x : X)
        → shown f (fin.insert m k x) ≡ fin.insert (shown f m) k (f x)
    insert-shown k x =
        fin.same_map o exact _ _ (λ q.
        let put = fin.get-insert o (shown f m) k (f x) q in
        grind (arith, get-shown m, get-shown (fin.insert m k x), fin.get-insert o m k x, put))

    pub remove-shown : (k : K) → shown f (fin.remove m k) ≡ fin.remove (shown f m) k
    remove-shown k =
        fin.same_map o exact _ _ (λ q.
        let out = fin.get-remove o (shown f m) k q in
        grind (arith, get-shown m, get-shown (fin.remove m k), fin.get-remove o m k, out))

    pub retain-shown : (p : K → Bool)
        → shown f (fin.retain_keys m p) ≡ fin.retain_keys (shown f m) p
    retain-shown p =
        let alike = λ (q x : K) (t : R q x ≡ Equal). ap p (sym (exact q x t)) in
        fin.same_map o exact _ _ (λ q.
        let kept = fin.get-retain_keys m p q (alike q) in
        let shown_kept = fin.get-retain_keys (shown f m) p q (alike q) in
        grind (arith, get-shown m, get-shown (fin.retain_keys m p), kept, shown_kept))
