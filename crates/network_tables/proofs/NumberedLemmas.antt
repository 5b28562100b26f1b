-- Values in numbered cells, by their keys.
use Rattle.net_view.proofs.Words
use Rattle.std.specs.FinMap as fin
use Words.{◌∷◌, ◌≡◌, Bool, List, None, Option, Some, Text, [], ap, arith, bytes_cmp, false}
use Words.{filter_map, is_some, option_and_then, option_map, refl, same, sym, true, ℕ}
use Rattle.net_view.proofs.{AfterAlike.look_ups, Holds.mapped, Keys.{is_same, same_by_keys}}
use Rattle.{net_view.proofs.Keys.same_refl, network_tables.specs.Numbered.{AreTied, joined}}
use Rattle.network_tables.specs.Numbered.{seen_in, value_at, value_out, with_value_in}
use Rattle.network_tables.specs.{Table.{swapped_in, swapped_out}, declared.numbered.Keyed.Keyed}
use Rattle.{slab.specs.Slab.{ContainsKey, Slab, Updates, get}, std.proofs.lemmas.Bool.cases_eq}
use Rattle.std.specs.{FinMap.Entries.below_all, Prelude.{◌≢◌, T}}
use Rattle.std.proofs.lemmas.{List.Sums.{sum_by-cons}, Option.{get_or_from_slice_get}}
use Rattle.std.specs.{List.{cons_option, slice_get, sum_by}, Option.{option_map_or}}
use Words.{◌+◌, ◌<◌, length, nat_list_cmp_total, suc, take}
use Rattle.network_tables.{proofs.BytesLemmas.{none_weigh}, specs.Table.{map_bytes}}
use Rattle.{network_tables.proofs.Sorted.{find_at}, std.specs.Prelude.{zero, ◌%◌, ◌^◌}}

slice_get_within : {Y : Type 0} (ys : List Y) (i : ℕ) (y : Y) → slice_get ys i ≡ Some y
    → i < length ys
slice_get_within [] i y is = absurd (grind arith)
slice_get_within (z ∷ ys) zero y is = omega arith
slice_get_within (z ∷ ys) (suc i) y is = let later = slice_get_within ys i y is in omega arith

-- a key below all others is none of them
gone : {X : Type 0} (k : Text) (es : List (Text × X)) → T (below_all bytes_cmp k es)
    → fin.find bytes_cmp k es ≡ None
gone k [] h = refl
gone k (e ∷ es) h = grind (arith, gone k es)

module _ {X A : Type 0} where
  abbrev pub paired : Slab (Keyed X A) → Text × ℕ → Option (Text × X)
  paired cells e = option_map (λ x. (e.0, x)) (value_at cells e.1)

  below_joined : (cells : Slab (Keyed X A)) (k : Text) (es : List (Text × ℕ))
      → T (below_all bytes_cmp k es) → T (below_all bytes_cmp k (filter_map (paired cells) es))
  below_joined cells k [] h = tt
  below_joined cells k (e ∷ es) h = grind (arith, below_joined cells k es)

  sorted_joined : (cells : Slab (Keyed X A)) (es : List (Text × ℕ))
      → T (fin.is_sorted bytes_cmp es)
      → T (fin.is_sorted bytes_cmp (filter_map (paired cells) es))
  sorted_joined cells [] h = tt
  sorted_joined cells (e ∷ es) h =
      grind (arith, below_joined cells e.0 es, sorted_joined cells es)

  find_joined : (cells : Slab (Keyed X A)) (q : Text) (es : List (Text × ℕ))
      → T (fin.is_sorted bytes_cmp es) → fin.find bytes_cmp q (filter_map (paired cells) es)
      ≡ option_and_then (value_at cells) (fin.find bytes_cmp q es)
  find_joined cells q [] h = refl
  find_joined cells q (e ∷ es) h =
      grind (arith, is_same q e.0, gone e.0 es, find_joined cells q es)

  pub get_joined : (index : fin.FinMap bytes_cmp ℕ) (cells : Slab (Keyed X A)) (q : Text)
      → fin.get (joined index cells) q ≡ option_and_then (value_at cells) (fin.get index q)
  unfolding joined
  get_joined index cells q =
      let es = fin.entries index in
      let sorted = fin.entries_sorted index in
      let found = find_joined cells q es sorted in
      let at = fin.get-entries index q in
      cc (fin.get-from_sorted bytes_cmp _ q (sorted_joined cells es sorted))

  pub entries_joined : (index : fin.FinMap bytes_cmp ℕ) (cells : Slab (Keyed X A))
      → fin.entries (joined index cells) ≡ filter_map (paired cells) (fin.entries index)
  unfolding joined
  entries_joined index cells =
      fin.entries-from_sorted bytes_cmp _
      (sorted_joined cells (fin.entries index) (fin.entries_sorted index))

  -- ---- the bytes of the values, counted from cell to cell

  module _ (f : Text × X → ℕ) (cells : Slab (Keyed X A)) where
    abbrev pub counted : List (Text × ℕ) → ℕ
    counted es = sum_by f (filter_map (paired cells) es)

    one_cell : (e : Text × ℕ) (es : List (Text × ℕ))
        → counted (e ∷ es) ≡ option_map_or f (paired cells e) 0 + counted es
    one_cell e es = by_value (paired cells e)
      where
        by_value : (x : Option (Text × X))
            → sum_by f (cons_option x (filter_map (paired cells) es))
            ≡ option_map_or f x 0 + counted es
        by_value None = omega arith
        by_value (Some x) = sum_by-cons f x (filter_map (paired cells) es)

    pub next_cell : (es : List (Text × ℕ)) (i : ℕ) (e : Text × ℕ) → slice_get es i ≡ Some e
        → counted (take (suc i) es) ≡ counted (take i es) + option_map_or f (paired cells e) 0
    next_cell [] i e is = absurd (grind arith)
    next_cell (e ∷ es) zero d is = grind (arith, one_cell)
    next_cell (e ∷ es) (suc i) d is =
        let here = one_cell e (take (suc i) es) in
        let before = one_cell e (take i es) in
        grind (arith, here, before, next_cell es i d)

    past : (es : List (Text × ℕ)) (i : ℕ) → slice_get es i ≡ None → take (suc i) es ≡ take i es
    past [] zero is = refl
    past [] (suc i) is = refl
    past (e ∷ es) zero is = absurd (grind arith)
    past (e ∷ es) (suc i) is = grind (arith, past es i)

    pub past_cells : (es : List (Text × ℕ)) (i : ℕ) → slice_get es i ≡ None
        → take (i + 1) es ≡ take i es
    past_cells es i is = let one : i + 1 ≡ suc i = omega arith in rw one (past es i is)

  -- nothing is held
  pub none_joined : (index : fin.FinMap bytes_cmp ℕ) (cells : Slab (Keyed X A)) → index ≡ fin.empty
      → joined index cells ≡ fin.empty
  none_joined index cells is =
      same_by_keys (λ q. grind (arith, get_joined index cells q, fin.get-empty))

  pub none_tied : (index : fin.FinMap bytes_cmp ℕ) (cells : Slab (Keyed X A)) → index ≡ fin.empty
      → ((n : ℕ) → get cells n ≡ None) → AreTied index cells
  none_tied index cells is none = record {
    held = λ key n e. grind (arith, fin.get-empty {X = ℕ} bytes_cmp key);
    known = λ n known e. grind (arith, none n);
  }

  pub none_weighs : (weight : X → ℕ) (index : fin.FinMap bytes_cmp ℕ) (cells : Slab (Keyed X A))
      → index ≡ fin.empty → 0 ≡ map_bytes weight (joined index cells) % 2 ^ 64
  none_weighs weight index cells is = rw (none_joined index cells is) (none_weigh weight)

  -- all is as before
  module _ (index index2 : fin.FinMap bytes_cmp ℕ) (cells cells2 : Slab (Keyed X A))
      (is : index2 ≡ index) (alike : (n : ℕ) → get cells2 n ≡ get cells n) where
    pub kept_joined : joined index2 cells2 ≡ joined index cells
    kept_joined = same_by_keys (λ q. grind (arith, get_joined, alike))

    pub kept_tied : AreTied index cells → AreTied index2 cells2
    kept_tied tied = record {
      held = λ key n e. grind (arith, tied.held key n, alike n);
      known = λ n known e. grind (arith, tied.known n known, alike n);
    }

  -- ---- by the number of a key
  module _ {index : fin.FinMap bytes_cmp ℕ} {cells : Slab (Keyed X A)}
      (tied : AreTied index cells) where
    pub there : (k : Text) (n : ℕ) → fin.get index k ≡ Some n
        → (known : Keyed X A) × (get cells n ≡ Some known) × (known.key.items ≡ k)
    there k n e = mapped (λ (x : Keyed X A). x.key.items) (get cells n) k (tied.held k n e)

    pub got : (k : Text) (n : ℕ) (known : Keyed X A) → Some n ≡ fin.get index k
        → Some known ≡ get cells n → Some known.value ≡ fin.get (joined index cells) k
    got k n known e is = grind (arith, get_joined)

    pub key_of_cell : (k : Text) (n : ℕ) (known : Keyed X A) → Some n ≡ fin.get index k
        → Some known ≡ get cells n → known.key.items ≡ k
    key_of_cell k n known e is = let at = tied.held k n (sym e) in grind arith

    -- what the cell at a place of the index adds to a sum
    pub adds_cell : (f : Text × X → ℕ) (i : ℕ) (e : Text × ℕ) (known : Keyed X A)
        → Some e ≡ slice_get (fin.entries index) i → Some known ≡ get cells e.1
        → counted f cells (take (i + 1) (fin.entries index))
        ≡ counted f cells (take i (fin.entries index)) + f (known.key.items, known.value)
    adds_cell f i e known at is =
        let es = fin.entries index in
        let there = get_or_from_slice_get es i e e (sym at) in
        let found = find_at nat_list_cmp_total es (fin.entries_sorted index) i e
        (slice_get_within es i e (sym at)) in
        let number : Some e.1 ≡ fin.get index e.0 = grind (arith, fin.get-entries index e.0) in
        let key = key_of_cell e.0 e.1 known number is in
        let next = next_cell f cells es i e (sym at) in
        let one : i + 1 ≡ suc i = omega arith in
        rw one (grind arith)

    pub adds_none : (f : Text × X → ℕ) (i : ℕ) (e : Text × ℕ)
        → Some e ≡ slice_get (fin.entries index) i → None ≡ get cells e.1
        → counted f cells (take (i + 1) (fin.entries index))
        ≡ counted f cells (take i (fin.entries index))
    adds_none f i e at is =
        let next = next_cell f cells (fin.entries index) i e (sym at) in
        let one : i + 1 ≡ suc i = omega arith in rw one (grind arith)

    pub holds : (k : Text) (n : ℕ) → Some n ≡ fin.get index k → ContainsKey cells n
    holds k n e = ap is_some (there k n (sym e)).1

    pub none_got : (k : Text) → None ≡ fin.get index k → None ≡ fin.get (joined index cells) k
    none_got k e = grind (arith, get_joined)

    pub none_there : (k : Text) → fin.get (joined index cells) k ≡ None → None ≡ fin.get index k
    none_there k none = grind (arith, got k, there k)

    -- two keys have two numbers
    apart : (q k : Text) (m n : ℕ) → fin.get index q ≡ Some m → fin.get index k ≡ Some n
        → same q k ≡ false → m ≢ n
    apart q k m n eq ek s is = grind (arith, tied.held q m, tied.held k n, same_refl q)

    -- ---- a value comes
    module _ {index2 : fin.FinMap bytes_cmp ℕ} {cells2 : Slab (Keyed X A)} {n : ℕ}
        {known : Keyed X A} (none : None ≡ fin.get index known.key.items)
        (free : get cells n ≡ None)
        (index_is : index2 ≡ fin.insert index known.key.items n)
        (updates : Updates cells cells2 n (Some known)) where
      abbrev k : Text
      k = known.key.items

      not_there : (q : Text) (m : ℕ) → fin.get index q ≡ Some m → m ≢ n
      not_there q m e number = grind (arith, tied.held q m)

      pub put_joined : joined index2 cells2 ≡ fin.insert (joined index cells) k known.value
      put_joined =
          same_by_keys (λ q.
          grind (look_ups, get_joined, not_there q, updates.changed, updates.others))

      pub put_tied : AreTied index2 cells2
      put_tied = record {
        held = λ q m e.
            let old = tied.held q m in
            grind (look_ups, is_same q k, not_there q m, updates.changed, updates.others m);
        known = λ m e at.
            let same = is_same e.key.items k in
            let before = tied.known m e in
            grind (look_ups, cases_eq m n, same_refl k, updates.changed, updates.others m);
      }

    -- ---- a value goes
    module _ {index2 : fin.FinMap bytes_cmp ℕ} {cells2 : Slab (Keyed X A)} {n : ℕ} (k : Text)
        (number : Some n ≡ fin.get index k) (index_is : index2 ≡ fin.remove index k)
        (updates : Updates cells cells2 n None) where
      pub taken_joined : joined index2 cells2 ≡ fin.remove (joined index cells) k
      taken_joined =
          same_by_keys (λ q. grind (look_ups, get_joined, apart q k, updates.others))

      pub taken_tied : AreTied index2 cells2
      taken_tied = record {
        held = λ q m e. grind (look_ups, apart q k m n, tied.held q m, updates.others m);
        known = λ m e at.
            let same = is_same e.key.items k in
            let before = tied.known m e in
            grind (look_ups, cases_eq m n, updates.changed, updates.others m);
      }

    -- ---- a value is changed
    module _ {cells2 : Slab (Keyed X A)} {n : ℕ} (k : Text) (value : X)
        (number : Some n ≡ fin.get index k)
        (updates : Updates cells cells2 n (with_value_in value (get cells n))) where
      pub swapped_there : fin.contains_key (joined index cells) k ≡ true
      swapped_there = let is = there k n (sym number) in grind (arith, get_joined)

      pub swapped_put : joined index cells2 ≡ fin.insert (joined index cells) k value
      swapped_put =
          let is = there k n (sym number) in
          same_by_keys (λ q.
          grind (look_ups, get_joined, apart q k, updates.changed, updates.others))

      pub swapped_joined : joined index cells2 ≡ swapped_in (joined index cells) k value
      swapped_joined = grind (arith, swapped_put, swapped_there)

      pub swapped_old : Some (value_out (get cells n) value) ≡ fin.get (joined index cells) k
      swapped_old = let is = there k n (sym number) in grind (arith, get_joined)

      pub swapped_value : value_out (get cells n) value ≡ swapped_out (joined index cells) k value
      swapped_value = let is = there k n (sym number) in grind (arith, get_joined)

      pub swapped_tied : AreTied index cells2
      swapped_tied = record {
        held = λ q m e. grind (arith, cases_eq m n, updates.changed, updates.others, tied.held q);
        known = λ m e at. grind (arith, cases_eq m n, updates.changed, updates.others, tied.known);
      }

    -- ---- some are kept
    module _ {index2 : fin.FinMap bytes_cmp ℕ} (cells2 : Slab (Keyed X A)) (p : Text → Bool)
        (index_is : index2 ≡ fin.retain_keys index p)
        (seen : (n : ℕ) → get cells2 n ≡ seen_in p (get cells n)) where
      still : (q : Text) (m : ℕ) → p q ≡ true → fin.get index q ≡ Some m
          → get cells2 m ≡ get cells m
      still q m met e = let is = there q m e in grind (arith, seen m)

      pub retained_joined : joined index2 cells2 ≡ fin.retain_keys (joined index cells) p
      retained_joined = same_by_keys (λ q. grind (look_ups, get_joined, still q))

      pub retained_tied : AreTied index2 cells2
      retained_tied = record {
        held = λ q m e. grind (look_ups, still q m, tied.held q m);
        known = λ m e at. grind (look_ups, seen m, tied.known m);
      }
