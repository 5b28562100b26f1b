-- Keys in lists and in tables.
use Rattle.std.specs.FinMap as fin
use Rattle.net_view.proofs.Words.{◌∷◌, ◌≡◌, Bool, List, None, Ordering, Text, [], ap, arith}
use Rattle.net_view.proofs.Words.{bytes_cmp, eq_by_cmp, false, list_any, nat_list_cmp_total, same}
use Rattle.net_view.{proofs.Words.{table_gets, true}, specs.Table.is_equal}
use Rattle.std.specs.{Cmp.tied_itself, Ordering.is_eq}
pub use Rattle.std.specs.Cmp.Lexicographic.{texts_ties}

pub bytes_exact : fin.IsAntisymmetric bytes_cmp
bytes_exact = fin.slice_cmp-IsAntisymmetric fin.nat_cmp-IsAntisymmetric

pub same_by_keys : {X : Type 0} {m l : fin.FinMap bytes_cmp X}
    → ((k : Text) → fin.get m k ≡ fin.get l k) → m ≡ l
same_by_keys same = fin.same_map nat_list_cmp_total bytes_exact _ _ same

pub is_same : (a b : Text) → same a b ≡ true → a ≡ b
is_same a b e = bytes_exact a b (is_equal (bytes_cmp a b) e)

-- a test that is met at a key is met in a list that has the key
pub met_at : (p : Text → Bool) (k : Text) (ys : List Text) → p k ≡ true
    → list_any (same k) ys ≡ true → list_any p ys ≡ true
met_at p k [] e h = cc
met_at p k (y ∷ ys) e h = grind (arith, is_same k y, met_at p k ys e)

pub not_kept : {K X : Type 0} {R : K → K → Ordering} (m : fin.FinMap R X) (q : K)
    → list_any (eq_by_cmp R q) (fin.keys m) ≡ false → fin.get m q ≡ None
not_kept m q h = grind (arith, fin.contains_key-keys m q)

pub same_refl : (a : Text) → same a a ≡ true
same_refl a = ap is_eq (tied_itself nat_list_cmp_total a)

-- tables by keys of names
pub ruleset text_tables = (table_gets, nat_list_cmp_total, bytes_exact)

-- a test that is met in a list is met at one of its keys
pub some_key : (p : Text → Bool) (xs : List Text) → list_any p xs ≡ true → (k : Text) × (p k ≡ true)
some_key p [] h = cc
some_key p (x ∷ xs) h = grind (arith, some_key p xs)
