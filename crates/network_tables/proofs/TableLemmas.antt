-- A table's entries, by the places that a search finds.
use Rattle.std.specs.FinMap as fin
use Rattle.{irc_support.specs.Text.Text, net_view.proofs.Keys.{bytes_exact, same_by_keys}}
use Rattle.{net_view.specs.{Names.bytes_cmp, Table.is_equal}, network_tables.specs.Marks.AreMarked}
use Rattle.network_tables.specs.Table.{AreNoted, map_bytes}
use Rattle.std.specs.Prelude.{◌%◌, ◌^◌}
use Rattle.{network_tables.proofs.Places.free_place, std.specs.Cmp.Lexicographic.nat_list_cmp_total}
use Rattle.{network_tables.proofs.Sorted.AreOf, std.proofs.Common.{◌<◌, arith, length, remove}}
use Rattle.network_tables.proofs.Sorted.{IsPlace, find_at, find_between, inserted, removed, written}
use Rattle.std.proofs.Common.{◌∙◌, ◌≤◌, Equal, List, ap, filter, map, nat_cmp, refl, set, sym, true}
use Rattle.std.proofs.Common.{◌∷◌, ◌≡◌, Bool, Err, None, Ordering, Some, T, [], get_or, insert, ℕ}
use Rattle.std.proofs.lemmas.List.{drop-map, get_or-map, length-map, map-append, map-set, take-map}
use Rattle.std.proofs.lemmas.Option.{slice_get-get_or, slice_get-map, slice_get_past}
use Rattle.std.specs.{Cmp.{IsTotalOrder, nat_cmp_total}, List.Sorted.IsBinarySearchResult}
use Rattle.std.specs.{FinMap.Entries.{find-where_key, is_sorted-where_key}, Ordering.eq_by_cmp}
use Rattle.std.proofs.lemmas.List.{map_more, take_all}

pub map_insert : {X Y : Type 0} (f : X → Y) (xs : List X) (i : ℕ) (x : X)
    → map f (insert xs i x) ≡ insert (map f xs) i (f x)
map_insert f xs i x = simp (map-append, take-map, drop-map)

pub map_remove : {X Y : Type 0} (f : X → Y) (xs : List X) (i : ℕ)
    → map f (remove xs i) ≡ remove (map f xs) i
map_remove f xs i = simp (map-append, take-map, drop-map)

-- an order in which keys that tie are one
pub record IsKeyOrder {K : Type 0} (R : K → K → Ordering) : Type 0 where
  pub total : IsTotalOrder R
  pub exact : fin.IsAntisymmetric R

pub by_bytes : IsKeyOrder bytes_cmp
by_bytes = record { total = nat_list_cmp_total; exact = bytes_exact }

pub by_letters : IsKeyOrder nat_cmp
by_letters = record { total = nat_cmp_total; exact = fin.nat_cmp-IsAntisymmetric }

module _ {E K X : Type 0} {R : K → K → Ordering} (order : IsKeyOrder R) (f : E → K × X)
    (xs : List E) (h : T (fin.is_sorted R (map f xs))) where
  abbrev es : List (K × X)
  es = map f xs

  abbrev all : fin.FinMap R X
  all = fin.from_sorted es

  -- the entry at the place that was found
  module _ {key : K} {i : ℕ} (l : i < length xs)
      (found : (d : E) → R (f (get_or xs i d)).0 key ≡ Equal) where
    within : i < length es
    within = omega (arith, length-map xs f)

    at : (d : E) → get_or es i (f d) ≡ f (get_or xs i d)
    at d = get_or-map f xs i d (f d) l

    is_key : (d : E) → (get_or es i (f d)).0 ≡ key
    is_key d = rw (at d) (order.exact _ key (found d))

    pub key_is : (e : E) → e ≡ get_or xs i e → (f e).0 ≡ key
    key_is e is = order.exact _ key (rw (← is) at (found e))

    pub got : (e : E) → e ≡ get_or xs i e → Some (f e).1 ≡ fin.get all key
    got e is =
        let found = find_at order.total es h i (f e) within in
        cc (found, at e, is_key e, fin.get-from_sorted R es key h)

    -- whatever was there, n has the key
    pub put_there : (n : E) → (f n).0 ≡ key
        → AreOf (map f (set xs i n)) (fin.insert all key (f n).1)
    put_there n same =
        rw (map-set f xs i n, ← same)
        (rw (is_key n ∙ sym same) at (written order.total es h i (f n) (f n).1 within))

    -- n has the key of e, which was there
    pub written_there : (e n : E) → e ≡ get_or xs i e → (f n).0 ≡ (f e).0
        → AreOf (map f (set xs i n)) (fin.insert all key (f n).1)
    written_there e n is same = put_there n (cc (order.exact _ key (found e)))

    pub removed_there : (d : E) → AreOf (map f (remove xs i)) (fin.remove all key)
    removed_there d =
        rw (map_remove f xs i)
        (rw (is_key d) at (removed order.total es h order.exact i (f d) within))

  -- the place where it would be
  module _ {key : K} {i : ℕ} (l : i ≤ length xs)
      (found : IsBinarySearchResult (λ (e : E). R (f e).0 key) xs (Err i)) where
    place : IsPlace R es key i
    place = free_place order.total f xs key i h l found

    pub got_none : None ≡ fin.get all key
    got_none = cc (fin.get-from_sorted R es key h, find_between order.total es key i place)

    pub inserted_there : (e : E) → (f e).0 ≡ key
        → AreOf (map f (insert xs i e)) (fin.insert all key (f e).1)
    inserted_there e is =
        rw (map_insert f xs i e, ← is)
        (inserted order.total es h (f e).0 (f e).1 i (rw (← is) at place))

pub no_entries : {K X : Type 0} (R : K → K → Ordering) → AreOf {X = X} {R = R} [] fin.empty
no_entries {X = X} R = record {
  sorted = tt;
  is = fin.empty_of_len _ (simp (fin.len-entries, fin.entries-from_sorted {X = X} R [] tt));
}

pub none_sorted : {K X : Type 0} (R : K → K → Ordering)
    → fin.from_sorted {X = X} {R = R} [] ≡ fin.empty
none_sorted R = (no_entries R).is

-- for an attribute `using`: what is at a place of the entries
pub ruleset entry_places =
    (fin.entries-from_sorted, slice_get-map, length-map, slice_get-get_or, slice_get_past)

-- for an attribute `using`: a list that is copied item by item
pub ruleset copies = (map_more, map-append, take_all)

pub removed_none_of : {K X : Type 0} {R : K → K → Ordering} → IsKeyOrder R → (m : fin.FinMap R X)
    (k : K) → None ≡ fin.get m k → m ≡ fin.remove m k
removed_none_of {K = K} {R = R} order m k e =
    let o = order.total in
    let tied = λ (q : K) (s : eq_by_cmp R q k ≡ true). fin.get_tied o m q k (is_equal _ s) in
    sym (fin.same_map o order.exact _ m (λ q. grind (arith, fin.get-remove o m k q, tied q)))

-- what leaves a table a table
pub tabled_by : {X : Type 0} {es : List (Text × X)} {m : fin.FinMap bytes_cmp X} (weight : X → ℕ)
    (marks : List Bool) {bytes : ℕ} → AreOf es m → AreMarked marks m
    → bytes ≡ map_bytes weight m % 2 ^ 64
    → T (fin.is_sorted bytes_cmp es) × AreNoted weight marks bytes (fin.from_sorted es)
tabled_by weight marks are marked weighs = (are.sorted, (rw are.is marked, rw are.is weighs))

-- ---- what is retained

filter_entries : {E K X : Type 0} (f : E → K × X) (q : K → Bool) (xs : List E)
    → map f (filter (λ e. q (f e).0) xs) ≡ filter (λ e. q e.0) (map f xs)
filter_entries f q [] = refl
filter_entries f q (x ∷ xs) = grind (arith, filter_entries f q xs)

module _ {E X : Type 0} (f : E → Text × X) (q : Text → Bool) (xs : List E)
    (h : T (fin.is_sorted bytes_cmp (map f xs))) where
  pub retained : AreOf {R = bytes_cmp} (map f (filter (λ e. q (f e).0) xs))
      (fin.retain_keys (fin.from_sorted (map f xs)) q)
  retained =
      let es = map f xs in
      let sorted = is_sorted-where_key bytes_cmp q es h in
      rw (filter_entries f q xs) (record {
        sorted = sorted;
        is = same_by_keys (λ x.
            let alike = λ (y : Text) (t : bytes_cmp x y ≡ Equal). ap q (sym (bytes_exact x y t)) in
            let kept = fin.get-retain_keys (fin.from_sorted {R = bytes_cmp} es) q x alike in
            let found = find-where_key bytes_cmp q x alike es in
            cc (fin.get-from_sorted bytes_cmp _ x sorted, fin.get-from_sorted bytes_cmp es x h));
      })
