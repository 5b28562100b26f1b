-- Faults of a tree.
use Rattle.bnc_config.specs.Document.{IsFaultBy, IsFaultOf, IsProfileFaultOf, IsTree, fault_at}
use Rattle.bnc_config.specs.Document.{first_fault, keys_fault, later_fault, networks_fault}
use Rattle.bnc_config.specs.Document.{profile_fault, sasl_fault, text_at, twice_fault, users_fault}
use Rattle.bnc_config.specs.declared.fault.ConfigFault.{ConfigFault, TheVariants.BadValue}
use Rattle.bnc_config.specs.declared.fault.ConfigFault.TheVariants.{Missing, NotToml, OutOfMemory}
use Rattle.bnc_config.specs.declared.{fault.ConfigFault.TheVariants.Twice, key.Key.Key}
use Rattle.bnc_config.specs.declared.key.Key.TheVariants.{NetworkName, UserName}
use Rattle.std.proofs.Common.{◌++◌, ◌∷◌, ◌≡◌, ◌⊎◌, Bool, List, None, Option, Some, [], arith}
use Rattle.{std.{proofs.Common.{if◌then◌else◌, inl, inr, ℕ}, specs.Option.option_or}, toml.specs.Data.Data}
use Rattle.toml.specs.Data.{Members}

-- the fault, if there is one, is of a tree
IsOfTree : Option ConfigFault → Type 0
IsOfTree found = found ≡ Some NotToml → ⊥

either_of_tree : (a b : Option ConfigFault) → IsOfTree a → IsOfTree b → IsOfTree (option_or a b)
unfolding IsOfTree
either_of_tree a b p q = grind arith

tested_of_tree : (b : Bool) (e : ConfigFault) → IsOfTree (Some e)
    → IsOfTree (if b then None else Some e)
unfolding IsOfTree
tested_of_tree b e p = grind arith

missing_of_tree : (key : Key) → IsOfTree (Some (Missing key))
unfolding IsOfTree
missing_of_tree key = λ h. cc

bad_of_tree : (key : Key) → IsOfTree (Some (BadValue key))
unfolding IsOfTree
bad_of_tree key = λ h. cc

none_of_tree : IsOfTree None
unfolding IsOfTree
none_of_tree = λ h. cc

key_of_tree : (key : Key) (optional : Bool) (allowed : Data → Bool) (found : Option Data)
    → IsOfTree (fault_at key optional allowed found)
key_of_tree key optional allowed None = search (tested_of_tree, missing_of_tree)
key_of_tree key optional allowed (Some value) = search (tested_of_tree, bad_of_tree)

keys_of_tree : (keys : List Key) (tree : Members) → IsOfTree (keys_fault keys tree)
keys_of_tree [] tree = none_of_tree
keys_of_tree (key ∷ keys) tree = search (either_of_tree, key_of_tree, keys_of_tree keys tree)

twice_of_tree : (earlier : List (List ℕ)) (name : List ℕ) → IsOfTree (twice_fault earlier name)
unfolding IsOfTree
twice_of_tree earlier name = grind arith

chosen_of_tree : (b : Bool) (p q : Option ConfigFault) → IsOfTree p → IsOfTree q
    → IsOfTree (if b then p else q)
unfolding IsOfTree
chosen_of_tree b p q h k = grind arith

sasl_of_tree : (tree : Members) → IsOfTree (sasl_fault tree)
sasl_of_tree tree =
    search (either_of_tree, chosen_of_tree, key_of_tree)

later_of_tree : (tree : Members) → IsOfTree (later_fault tree)
later_of_tree tree = search (either_of_tree, sasl_of_tree, keys_of_tree)

networks_of_tree : (earlier : List (List ℕ)) (trees : List Members)
    → IsOfTree (networks_fault earlier trees)
networks_of_tree earlier [] = none_of_tree
networks_of_tree earlier (tree ∷ trees) =
    let rest = networks_of_tree (earlier ++ text_at NetworkName tree ∷ []) trees in
    search (either_of_tree, keys_of_tree, later_of_tree, twice_of_tree)

users_of_tree : (earlier : List (List ℕ)) (trees : List Members)
    → IsOfTree (users_fault earlier trees)
users_of_tree earlier [] = none_of_tree
users_of_tree earlier (tree ∷ trees) =
    let rest = users_of_tree (earlier ++ text_at UserName tree ∷ []) trees in
    search (either_of_tree, either_of_tree, keys_of_tree, twice_of_tree, networks_of_tree)

profile_of_tree : (tree : Members) → IsOfTree (profile_fault tree)
profile_of_tree tree = search (either_of_tree, keys_of_tree, key_of_tree)

first_of_tree : (tree : Members) → IsOfTree (first_fault tree)
first_of_tree tree =
    search (either_of_tree, keys_of_tree, key_of_tree, profile_of_tree, users_of_tree)

fault_by_tree : (first : Members → Option ConfigFault) (text : List ℕ) (tree : Members)
    (e : ConfigFault) → IsOfTree (first tree) → IsTree text tree → first tree ≡ Some e
    → IsFaultBy first text e
unfolding IsOfTree
fault_by_tree first text tree NotToml of is fault = absurd (of fault)
fault_by_tree first text tree (Missing key) of is fault = (tree, is, fault)
fault_by_tree first text tree (BadValue key) of is fault = (tree, is, fault)
fault_by_tree first text tree (Twice name) of is fault = (tree, is, fault)
fault_by_tree first text tree OutOfMemory of is fault = tt

-- the first fault of its tree is a text's fault
pub fault_of_tree : (text : List ℕ) (tree : Members) (e : ConfigFault) → IsTree text tree
    → first_fault tree ≡ Some e → IsFaultOf text e
fault_of_tree text tree e = fault_by_tree first_fault text tree e (first_of_tree tree)

pub profile_fault_of_tree : (text : List ℕ) (tree : Members) (e : ConfigFault) → IsTree text tree
    → profile_fault tree ≡ Some e → IsProfileFaultOf text e
profile_fault_of_tree text tree e = fault_by_tree profile_fault text tree e (profile_of_tree tree)

-- ---- the first fault of a network: of its name, of its other keys, of its later ones, or that it
-- is twice there

module _ (name keys later twice : Option ConfigFault) (named : name ≡ None) where
  pub network_keys_bad : {M : Type 0} (e : ConfigFault) → M ⊎ (option_or keys later ≡ Some e)
      → M ⊎ (option_or (option_or name keys) (option_or later twice) ≡ Some e)
  network_keys_bad e (inl memory) = inl memory
  network_keys_bad e (inr bad) = inr (grind arith)

  pub network_twice : {M : Type 0} (e : ConfigFault) → option_or keys later ≡ None
      → M ⊎ (twice ≡ Some e)
      → M ⊎ (option_or (option_or name keys) (option_or later twice) ≡ Some e)
  network_twice e none (inl memory) = inl memory
  network_twice e none (inr bad) = inr (grind arith)

  pub network_good : option_or keys later ≡ None → twice ≡ None
      → option_or (option_or name keys) (option_or later twice) ≡ None
  network_good none new = grind arith
