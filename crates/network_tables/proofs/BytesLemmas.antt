-- How many bytes the entries of a table keep.
use Rattle.net_view.proofs.Words
use Rattle.std.specs.FinMap as fin
use Words.{◌+◌, ◌<◌, ◌∷◌, ◌≡◌, List, None, Some, Text, [], arith, bytes_cmp, length, map, refl}
use Words.{ap, sym, take, ℕ}
use Rattle.net_view.proofs.{AfterAlike.look_ups, Keys.same_by_keys}
use Rattle.network_tables.proofs.TableLemmas.{none_sorted}
use Rattle.network_tables.{proofs.ShownLemmas.{entries-shown}, specs.Shown.{shown}}
use Rattle.network_tables.specs.Table.{entry_bytes, map_bytes}
use Rattle.std.specs.Cmp.Lexicographic.{nat_list_cmp_total}
use Rattle.std.proofs.{Common.{get_or}, lemmas.List.{Sums.{sum_by_push}, map-append, take_more}}
use Rattle.std.{proofs.lemmas.List.Sums.sum_by-cons, specs.Prelude.{◌%◌, ◌^◌, T, sum_by}}

-- one place more
pub one_place : {E Y : Type 0} (f : Y → ℕ) (g : E → Y) (xs : List E) (i : ℕ) (x : E)
    → i < length xs → x ≡ get_or xs i x
    → sum_by f (map g (take (i + 1) xs)) ≡ sum_by f (map g (take i xs)) + f (g x)
one_place f g xs i x l is =
    rw (take_more xs i x l, ← is, map-append) (sum_by_push f (map g (take i xs)) (g x))

add_assoc : (a b c : ℕ) → a + b + c ≡ a + (b + c)
add_assoc a b c = omega arith

module _ {X : Type 0} (weight : X → ℕ) where
  put_new : (k : Text) (v : X) (es : List (Text × X)) → fin.find bytes_cmp k es ≡ None
      → sum_by (entry_bytes weight) (fin.put bytes_cmp k v es)
      ≡ sum_by (entry_bytes weight) es + entry_bytes weight (k, v)
  put_new k v [] none = refl
  put_new k v (e ∷ es) none =
      let f = entry_bytes weight in
      let first = sum_by-cons f (k, v) (e ∷ es) in
      let here = sum_by-cons f e es in
      let later = sum_by-cons f e (fin.put bytes_cmp k v es) in
      grind (arith, first, here, later, put_new k v es)

  one_more : (m : fin.FinMap bytes_cmp X) (k : Text) (v : X) → fin.get m k ≡ None
      → map_bytes weight (fin.insert m k v) ≡ map_bytes weight m + entry_bytes weight (k, v)
  one_more m k v none =
      rw (fin.entries-insert nat_list_cmp_total)
      (put_new k v (fin.entries m) (rw fin.get-entries at none))

  module _ (m : fin.FinMap bytes_cmp X) (k : Text) where
    without_it : fin.get (fin.remove m k) k ≡ None
    without_it = grind look_ups

    over : (v : X) → fin.insert m k v ≡ fin.insert (fin.remove m k) k v
    over v = same_by_keys (λ q. grind look_ups)

    one_less : (v : X) → fin.get m k ≡ Some v
        → map_bytes weight m ≡ map_bytes weight (fin.remove m k) + entry_bytes weight (k, v)
    one_less v there =
        let whole : fin.insert (fin.remove m k) k v ≡ m = same_by_keys (λ q. grind look_ups) in
        rw whole at (one_more (fin.remove m k) k v without_it)

    -- ---- as stored sums, modulo 2^64

    module _ {bytes bytes2 : ℕ} (weighs : bytes ≡ map_bytes weight m % 2 ^ 64) where
      -- a new entry comes
      pub came : {more : ℕ} (v : X) → None ≡ fin.get m k
          → more ≡ entry_bytes weight (k, v) % 2 ^ 64
          → ((x y : ℕ) → bytes ≡ x % 2 ^ 64 → more ≡ y % 2 ^ 64 → bytes2 ≡ (x + y) % 2 ^ 64)
          → bytes2 ≡ map_bytes weight (fin.insert m k v) % 2 ^ 64
      came v none is adds =
          rw (one_more m k v (sym none)) (adds (map_bytes weight m) (entry_bytes weight (k, v)) weighs is)

      -- an entry goes
      pub went : {less : ℕ} (v : X) → Some v ≡ fin.get m k
          → less ≡ entry_bytes weight (k, v) % 2 ^ 64
          → ((x y : ℕ) → bytes ≡ (x + y) % 2 ^ 64 → less ≡ y % 2 ^ 64 → bytes2 ≡ x % 2 ^ 64)
          → bytes2 ≡ map_bytes weight (fin.remove m k) % 2 ^ 64
      went v there is takes =
          let all = rw (one_less v (sym there)) at weighs in
          takes (map_bytes weight (fin.remove m k)) (entry_bytes weight (k, v)) all is

      -- and another comes in its place
      pub changed : {less rest more : ℕ} (old new : X) → Some old ≡ fin.get m k
          → less ≡ entry_bytes weight (k, old) % 2 ^ 64
          → more ≡ entry_bytes weight (k, new) % 2 ^ 64
          → ((x y : ℕ) → bytes ≡ (x + y) % 2 ^ 64 → less ≡ y % 2 ^ 64 → rest ≡ x % 2 ^ 64)
          → ((x y : ℕ) → rest ≡ x % 2 ^ 64 → more ≡ y % 2 ^ 64 → bytes2 ≡ (x + y) % 2 ^ 64)
          → bytes2 ≡ map_bytes weight (fin.insert m k new) % 2 ^ 64
      changed old new there was is takes adds =
          let x = map_bytes weight (fin.remove m k) in
          let all = rw (one_less old (sym there)) at weighs in
          let rest = takes x (entry_bytes weight (k, old)) all was in
          rw (over new, one_more (fin.remove m k) k new without_it) (adds x (entry_bytes weight (k, new)) rest is)

      -- another value comes in its place
      pub valued : {less rest more : ℕ} (old new : X) → Some old ≡ fin.get m k
          → less ≡ weight old % 2 ^ 64 → more ≡ weight new % 2 ^ 64
          → ((x y : ℕ) → bytes ≡ (x + y) % 2 ^ 64 → less ≡ y % 2 ^ 64 → rest ≡ x % 2 ^ 64)
          → ((x y : ℕ) → rest ≡ x % 2 ^ 64 → more ≡ y % 2 ^ 64 → bytes2 ≡ (x + y) % 2 ^ 64)
          → bytes2 ≡ map_bytes weight (fin.insert m k new) % 2 ^ 64
      valued old new there was is takes adds =
          let kept = map_bytes weight (fin.remove m k) in
          let all : bytes ≡ (kept + length k + weight old) % 2 ^ 64 =
          cc (weighs, one_less old (sym there), add_assoc kept (length k) (weight old)) in
          let rest = takes (kept + length k) (weight old) all was in
          let put = one_more (fin.remove m k) k new without_it in
          cc (
            adds (kept + length k) (weight new) rest is,
            over new,
            put,
            add_assoc kept (length k) (weight new),
          )

-- as entries lie in memory
pub map_weighs : {X : Type 0} (weight : X → ℕ) (es : List (Text × X))
    → T (fin.is_sorted bytes_cmp es)
    → map_bytes weight (fin.from_sorted es) ≡ sum_by (entry_bytes weight) es
map_weighs weight es sorted = ap (sum_by (entry_bytes weight)) (fin.entries-from_sorted _ es sorted)

-- none keep nothing
pub none_weigh : {X : Type 0} (weight : X → ℕ) → 0 ≡ map_bytes weight fin.empty % 2 ^ 64
none_weigh {X = X} weight = rw (← none_sorted {X = X} bytes_cmp, map_weighs weight [] tt) refl

-- values that are shown in another way
sum_over : {X Y : Type 0} (f : Y → ℕ) (g : X → Y) (xs : List X)
    → sum_by f (map g xs) ≡ sum_by (λ x. f (g x)) xs
sum_over f g [] = refl
sum_over f g (x ∷ xs) =
    let shown = sum_by-cons f (g x) (map g xs) in
    let plain = sum_by-cons (λ x. f (g x)) x xs in
    grind (arith, shown, plain, sum_over f g xs)

pub shown_weighs : {X Y : Type 0} (weight : Y → ℕ) (f : X → Y) (m : fin.FinMap bytes_cmp X)
    → map_bytes (λ x. weight (f x)) m ≡ map_bytes weight (shown f m)
shown_weighs weight f m =
    rw entries-shown (sym (sum_over (entry_bytes weight) (λ e. (e.0, f e.1)) (fin.entries m)))
