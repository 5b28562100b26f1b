-- A value is read back.
use Rattle.std.proofs.Common.{◌++◌, ◌≡◌, ◌∷◌, List, Some, [], arith, refl, ℕ, append_assoc}
use Rattle.std.specs.List.{flat_map}
use Rattle.figures.specs.Labels.{escaped, value_read, value_behind, with_byte}

pub read_back : (value rest : List ℕ)
    → value_read (flat_map escaped value ++ 34 ∷ rest) ≡ Some (value, rest)
read_back [] rest = refl
read_back (b ∷ bs) rest = let known = read_back bs rest in grind (arith, append_assoc)
