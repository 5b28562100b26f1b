-- What the entries of a map say one after the other: keys rise, so the last word on a key is the
-- only one.
use Rattle.std.specs.FinMap as fin
use Rattle.{std.specs.Ordering.eq_by_cmp, welcome.proofs.Words.{◌∷◌, ◌≡◌, List, None, Option}}
use Rattle.welcome.proofs.Words.{Ordering, Some, [], arith, below_all, cond, is_equal, last_in, map}
use Rattle.welcome.proofs.Words.{option_map, refl, true}

module _ {K X : Type 0} (R : K → K → Ordering) (exact : fin.IsAntisymmetric R) (q : K) where
  -- a key that is below all is none of them
  pub none_below : (es : List (K × X)) → below_all R q es ≡ true → fin.find R q es ≡ None
  none_below [] h = refl
  none_below (e ∷ es) h = grind (arith, none_below es)

  module _ {A B : Type 0} (says : B → Option A) (shown : K × X → B) (told : X → A)
      (one : (e : K × X) → says (shown e) ≡ cond (eq_by_cmp R q e.0) (Some (told e.1)) None) where
    last_found : (es : List (K × X)) → fin.is_sorted R es ≡ true
        → last_in says (map shown es) ≡ option_map told (fin.find R q es)
    last_found [] h = refl
    last_found (e ∷ es) h =
        let at : eq_by_cmp R q e.0 ≡ true → q ≡ e.0 = λ s. exact q e.0 (is_equal (R q e.0) s) in
        grind (arith, none_below es, last_found es, one e, at)

    pub told_at : (m : fin.FinMap R X)
        → last_in says (map shown (fin.entries m)) ≡ option_map told (fin.get m q)
    told_at m = grind (arith, last_found, fin.get-entries, fin.entries_sorted)
