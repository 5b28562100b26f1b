-- The items of a list in a tree.
use Rattle.bnc_config.specs.Allowed.{all_items, is_list_where, is_table, is_text_where}
use Rattle.bnc_config.specs.Allowed.{is_text_or_list, item_count}
use Rattle.bnc_config.specs.Document.{fault_at, tables_of, texts_in, texts_of}
use Rattle.bnc_config.specs.declared.fault.ConfigFault.{ConfigFault, TheVariants.BadValue}
use Rattle.{bnc_config.specs.declared.key.Key.Key, std.proofs.Common.{Bool, List, None, Option}}
use Rattle.std.proofs.Common.{Some, [], append_assoc, arith, drop, false, get_or, inl, inr, length}
use Rattle.std.proofs.Common.{map, refl, true, ℕ, ◌++◌, ◌+◌, ◌<◌, ◌∙◌, ◌∷◌, ◌≡◌, ◌≤◌, ◌⊎◌}
use Rattle.std.proofs.lemmas.Bool.Decides.{nat_tests}
use Rattle.std.{proofs.lemmas.List.map-append, specs.{List.list_all, Option.option_or}}
use Rattle.toml.{proofs.Views.items_view-drop, specs.Data.{Data, Items, Members, array, as_array}}
use Rattle.toml.specs.{Data.{as_table, item, no_items, table}, View.{items_view, view}}
use Rattle.toml.specs.declared.value.Value.{Value}

-- a test of all values is one of all items
pub all_items_view : (test : Data → Bool) (vs : List Value)
    → all_items test (items_view vs) ≡ list_all (λ v. test (view v)) vs
all_items_view test [] = refl
all_items_view test (v ∷ vs) = rw (all_items_view test vs)

-- one item for each value
pub item_count_view : (vs : List Value) → item_count (items_view vs) ≡ length vs
item_count_view [] = refl
item_count_view (v ∷ vs) = rw (item_count_view vs)

as_array_is : (d : Data) (items : Items) → Some items ≡ as_array d → d ≡ array items
as_array_is d items h = grind arith

as_table_is : (d : Data) (tree : Members) → Some tree ≡ as_table d → d ≡ table tree
as_table_is d tree h = grind arith

-- a list with an item that is no table is a bad value
pub fault_at-other_list : (key : Key) (found : Option Data) (d : Data) (vs : List Value) → Some d
    ≡ found → Some (items_view vs) ≡ as_array d → false ≡ list_all (λ v. is_table (view v)) vs
    → fault_at key true (is_list_where is_table) found ≡ Some (BadValue key)
fault_at-other_list key found d vs here list other =
    rw (← here, as_array_is d (items_view vs) list, all_items_view is_table vs, ← other) refl

-- the tables from a table on
pub tables_of-table : (vs : List Value) (i : ℕ) (v : Value) (tree : Members) → i < length vs
    → v ≡ get_or vs i v → Some tree ≡ as_table (view v)
    → tables_of (items_view (drop i vs)) ≡ tree ∷ tables_of (items_view (drop (i + 1) vs))
tables_of-table vs i v tree within same found =
    rw (items_view-drop vs i v within, ← same, as_table_is (view v) tree found) refl

skipped : (d : Data) (ds : Items) → None ≡ as_table d → tables_of (item d ds) ≡ tables_of ds
skipped d ds h = grind arith

-- the tables from another value on
pub tables_of-other : (vs : List Value) (i : ℕ) (v : Value) → i < length vs → v ≡ get_or vs i v
    → None ≡ as_table (view v)
    → tables_of (items_view (drop i vs)) ≡ tables_of (items_view (drop (i + 1) vs))
tables_of-other vs i v within same found =
    rw (items_view-drop vs i v within, ← same)
    (skipped (view v) (items_view (drop (i + 1) vs)) found)

-- tables that are read one by one: what one means, its name, and its fault and that of all
module _ {T : Type 0} (means : Members → T) (name : T → List ℕ)
    (one : List (List ℕ) → Members → Option ConfigFault)
    (all : List (List ℕ) → List Members → Option ConfigFault) where
  -- the first i values were read, and the tables among them mean these items
  pub record IsReadTo (vs : List Value) (i : ℕ) (items : List T) : Type 0 where
    pub step : (earlier : List (List ℕ)) (tree : Members) (rest : List Members)
        → all earlier (tree ∷ rest)
        ≡ option_or (one earlier tree) (all (earlier ++ name (means tree) ∷ []) rest)
    pub fault : all [] (tables_of (items_view vs))
        ≡ all (map name items) (tables_of (items_view (drop i vs)))
    pub done : map means (tables_of (items_view vs))
        ≡ items ++ map means (tables_of (items_view (drop i vs)))

  module _ {vs : List Value} {i : ℕ} {v : Value} {items : List T} (so_far : IsReadTo vs i items)
      (within : i < length vs) (is : v ≡ get_or vs i v) where
    pub read_more : {tree : Members} {now : List T} → Some tree ≡ as_table (view v)
        → one (map name items) tree ≡ None → now ≡ items ++ means tree ∷ []
        → IsReadTo vs (i + 1) now
    read_more {tree} {now} found none pushed =
        let from = tables_of-table vs i v tree within is found in
        record {
          step = so_far.step;
          fault = so_far.fault ∙ rw (from, so_far.step, none, pushed, map-append);
          done = so_far.done ∙ rw (from, pushed, append_assoc);
        }

    pub read_past : None ≡ as_table (view v) → IsReadTo vs (i + 1) items
    read_past other =
        let from = tables_of-other vs i v within is other in
        record { step = so_far.step; fault = so_far.fault ∙ rw from; done = so_far.done ∙ rw from }

    pub read_fails : {M : Type 0} {tree : Members} {e : ConfigFault} → Some tree ≡ as_table (view v)
        → M ⊎ (one (map name items) tree ≡ Some e)
        → M ⊎ (all [] (tables_of (items_view vs)) ≡ Some e)
    read_fails found (inl memory) = inl memory
    read_fails {tree = tree} found (inr bad) =
        let from = tables_of-table vs i v tree within is found in
        inr (so_far.fault ∙ rw (from, so_far.step, bad))

-- the texts among items that all are texts which pass a test
pub texts_of_allowed : (test : List ℕ → Bool) (items : Items)
    → all_items (is_text_where test) items ≡ true → list_all test (texts_of items) ≡ true
texts_of_allowed test no_items h = refl
texts_of_allowed test (item d items) h = grind (arith, texts_of_allowed test items)

-- no more texts than items
pub few_texts_of : (items : Items) → length (texts_of items) ≤ item_count items
few_texts_of no_items = omega arith
few_texts_of (item d items) = grind (arith, few_texts_of items)

-- one text for each item, if all are texts
count_texts_of : (test : List ℕ → Bool) (items : Items)
    → all_items (is_text_where test) items ≡ true → length (texts_of items) ≡ item_count items
count_texts_of test no_items h = refl
count_texts_of test (item d items) h = grind (arith, count_texts_of test items)

-- the texts of a value that is one text which passes a test, or a list of one to eight
module _ (test : List ℕ → Bool) (value : Data) (good : is_text_or_list test 8 value ≡ true) where
  pub addresses_allowed : list_all test (texts_in value) ≡ true
  addresses_allowed = grind (arith, nat_tests, texts_of_allowed test)

  pub addresses_some : 1 ≤ length (texts_in value)
  addresses_some = grind (arith, nat_tests, count_texts_of test)

  pub addresses_few : length (texts_in value) ≤ 8
  addresses_few = grind (arith, nat_tests, count_texts_of test)
