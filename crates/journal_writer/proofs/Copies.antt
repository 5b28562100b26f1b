-- A copy of names grows by one at a time.
use Rattle.std.proofs.Common.{◌≡◌, ◌∙◌, ◌+◌, ◌<◌, ◌≤◌, ◌++◌, arith, ℕ, List, [], ◌∷◌, length}
use Rattle.std.proofs.Common.{Option, Some, None, T, true, false, refl, sym, ap, subst, suc}
use Rattle.std.proofs.Common.{take, drop}
use Rattle.std.specs.Prelude.{slice_get}
use Rattle.std.specs.FinMap as fin
use Rattle.std.specs.FinMap.{IsAntisymmetric, find, is_sorted, nat_cmp-IsAntisymmetric}
use Rattle.std.specs.FinMap.{get-entries, get-from_entries, get-insert, len-empty, len-insert}
use Rattle.std.specs.FinMap.{entries_sorted, from_entries_push, len-entries, same_map}
use Rattle.std.specs.FinMap.{slice_cmp-IsAntisymmetric}
use Rattle.std.specs.FinMap.Entries.{below_all}
use Rattle.std.specs.Cmp.{Lexicographic.nat_list_cmp_total}
use Rattle.std.specs.Ordering.{eq_by_cmp}
use Rattle.std.proofs.Math.Seq.{drop-cons}
use Rattle.std.proofs.lemmas.List.{length-take-le, take-append-drop, take_all, take_more}
use Rattle.std.proofs.lemmas.Option.{get_or_from_slice_get, slice_get_within}
use Rattle.history.specs.Marks.{NameMarks, bytes_cmp, with_mark}

exact : IsAntisymmetric bytes_cmp
exact = slice_cmp-IsAntisymmetric nat_cmp-IsAntisymmetric

abbrev pub made : List (List ℕ × Option ℕ) → NameMarks
made es = fin.from_entries es

few_made : (es : List (List ℕ × Option ℕ)) → fin.len (made es) ≤ length es
few_made [] = omega (arith, len-empty bytes_cmp (Option ℕ))
few_made (e ∷ es) =
    grind (arith, few_made es, len-insert nat_list_cmp_total (made es) e.0 e.1)

below_last : (d x : List ℕ) (v : Option ℕ) (ds es : List (List ℕ × Option ℕ))
    → T (below_all bytes_cmp d (ds ++ (x, v) ∷ es)) → eq_by_cmp bytes_cmp x d ≡ false
below_last d x v [] es low = grind (arith, low, nat_list_cmp_total.antisymm d x)
below_last d x v (e ∷ ds) es low = grind (arith, low, below_last d x v ds es)

new_name : (x : List ℕ) (v : Option ℕ) (done es : List (List ℕ × Option ℕ))
    → T (is_sorted bytes_cmp (done ++ (x, v) ∷ es)) → find bytes_cmp x done ≡ None
new_name x v [] es sorted = refl
new_name x v (d ∷ ds) es sorted =
    grind (arith, sorted, below_last d.0 x v ds es, new_name x v ds es)

itself : (x : List ℕ) → eq_by_cmp bytes_cmp x x ≡ true
itself x = grind (arith, nat_list_cmp_total.antisymm x x)

twice : (x : List ℕ) (n : ℕ) (m : NameMarks)
    → fin.insert (fin.insert m x None) x (Some n) ≡ fin.insert m x (Some n)
twice x n m = same_map nat_list_cmp_total exact _ _ (λ q.
    grind (
      arith,
      get-insert nat_list_cmp_total (fin.insert m x None) x (Some n) q,
      get-insert nat_list_cmp_total m x None q,
      get-insert nat_list_cmp_total m x (Some n) q,
    ))

-- a name that was admitted and then marked
pub marked_new : (x : List ℕ) (n : ℕ) (m : NameMarks)
    → with_mark x n (fin.insert m x None) ≡ fin.insert m x (Some n)
marked_new x n m =
    let there : fin.get (fin.insert m x None) x ≡ Some None =
    get-insert nat_list_cmp_total m x None x ∙ rw (itself x) refl in
    rw there (twice x n m)

-- ---- the entries up to a place

so_far : {X : Type 0} (xs : List X) (i : ℕ) (x : X) → slice_get xs i ≡ Some x
    → take (i + 1) xs ≡ take i xs ++ x ∷ []
so_far xs i x e =
    take_more xs i x (slice_get_within xs i x e)
    ∙ ap (λ (y : _). take i xs ++ y ∷ []) (get_or_from_slice_get xs i x x e)

whole : {X : Type 0} (xs : List X) (i : ℕ) (x : X) → slice_get xs i ≡ Some x
    → xs ≡ take i xs ++ x ∷ drop (suc i) xs
whole xs i x e =
    sym (take-append-drop i xs)
    ∙ ap (λ (l : List _). take i xs ++ l) (drop-cons xs i x (slice_get_within xs i x e))
    ∙ ap (λ (y : _). take i xs ++ y ∷ drop (suc i) xs) (get_or_from_slice_get xs i x x e)

unfound : (m : NameMarks) (i : ℕ) (x : List ℕ) (v : Option ℕ)
    → slice_get (fin.entries m) i ≡ Some (x, v) → find bytes_cmp x (take i (fin.entries m)) ≡ None
unfound m i x v e =
    new_name x v (take i (fin.entries m)) (drop (suc i) (fin.entries m))
    (subst (λ (es : List (List ℕ × Option ℕ)). T (is_sorted bytes_cmp es))
    (whole (fin.entries m) i (x, v) e) (entries_sorted m))

pub is_new : (m : NameMarks) (i : ℕ) (x : List ℕ) (v : Option ℕ)
    → slice_get (fin.entries m) i ≡ Some (x, v)
    → fin.contains_key (made (take i (fin.entries m))) x ≡ false
is_new m i x v e =
    let none : fin.get (made (take i (fin.entries m))) x ≡ None =
    get-from_entries nat_list_cmp_total (take i (fin.entries m)) x ∙ unfound m i x v e in
    rw none refl

pub has_room : (m : NameMarks) (i : ℕ) → i < fin.len m → fin.len m ≤ 64
    → fin.len (made (take i (fin.entries m))) < 64
has_room m i there few =
    let size : length (take i (fin.entries m)) ≡ i =
    length-take-le i (fin.entries m) (omega (arith, there, len-entries m)) in
    omega (arith, few_made (take i (fin.entries m)), size, there, few)

pub put_next : (m : NameMarks) (i : ℕ) (x : List ℕ) (v : Option ℕ)
    → slice_get (fin.entries m) i ≡ Some (x, v)
    → made (take (i + 1) (fin.entries m)) ≡ fin.insert (made (take i (fin.entries m))) x v
put_next m i x v e =
    ap made (so_far (fin.entries m) i (x, v) e)
    ∙ from_entries_push nat_list_cmp_total exact (take i (fin.entries m)) x v (unfound m i x v e)

made_of : (m : NameMarks) → made (fin.entries m) ≡ m
made_of m =
    same_map nat_list_cmp_total exact _ _ (λ q.
    get-from_entries nat_list_cmp_total (fin.entries m) q ∙ sym (get-entries m q))

-- after all of them
pub all_put : (m : NameMarks) (i : ℕ) → fin.len m ≤ i → made (take i (fin.entries m)) ≡ m
all_put m i done =
    ap made (take_all i (fin.entries m) (omega (arith, done, len-entries m))) ∙ made_of m
