-- Names of channels that are compared.
use Rattle.std.proofs.Common.{Bool, List, arith, ℕ, ◌≡◌}
use Rattle.std.proofs.lemmas.Slice.Eq.{bytes_eq-Decides}
use Rattle.std.specs.Prelude.{IsTrue, ◌↔◌}
use Rattle.std.specs.Str.{bytes_eq}

-- what is true exactly if two texts are equal is whether they are
pub equal_told : (told : Bool) (a b : List ℕ) → IsTrue told ↔ (a ≡ b) → told ≡ bytes_eq a b
equal_told told a b h = grind (arith, bytes_eq-Decides a b)
