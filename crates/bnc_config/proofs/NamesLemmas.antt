-- Names that come earlier in a list.
use Rattle.std.proofs.Common.{◌++◌, ◌∷◌, ◌≡◌, List, Option, Some, [], arith, cond, ℕ}
use Rattle.std.proofs.lemmas.{List.Folds.list_any-append, Slice.Eq.bytes_eq-Decides}
use Rattle.std.specs.{List.list_any, Option.is_some, Str.bytes_eq}

-- a name is found after one more was added if it was found before, or is that one
pub found_after : (name added : List ℕ) (earlier : List (List ℕ)) (found : Option Unit)
    → is_some found ≡ list_any (bytes_eq name) earlier
    → is_some (cond (bytes_eq added name) (Some tt) found)
    ≡ list_any (bytes_eq name) (earlier ++ added ∷ [])
found_after name added earlier found same =
    grind (arith, list_any-append, bytes_eq-Decides added name, bytes_eq-Decides name added)
