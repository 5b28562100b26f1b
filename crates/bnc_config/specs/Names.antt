-- The names that come earlier in a list.
use Rattle.std.specs.Prelude.{◌≡◌, ℕ, List, is_some}
use Rattle.std.specs.HashMap.{get_by}
use Rattle.std.specs.List.{list_any}
use Rattle.std.specs.Str.{bytes_eq}
use Rattle.bnc_config.specs.declared.names.Names.{Names}

-- a name is found among the names if it is one of these
abbrev pub AreNames : Names → List (List ℕ) → Type 0
AreNames names earlier = (name : List ℕ)
    → is_some (get_by (λ k. bytes_eq name k.now) names.seen) ≡ list_any (bytes_eq name) earlier
