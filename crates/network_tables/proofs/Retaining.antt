-- A list whose items are gone through from the end, and some taken out.
use Rattle.std.{proofs.Common.{arith, drop, get_or, take}, specs.List.{filter, remove}}
use Rattle.std.specs.Prelude.{Bool, List, [], false, length, suc, zero, ℕ, ◌++◌, ◌<◌, ◌∷◌, ◌≡◌, ◌≤◌}

module _ {X : Type 0} (p : X → Bool) where
  -- what is left if all from a place on have been looked at
  abbrev pub left : ℕ → List X → List X
  left i xs = take i xs ++ filter p (drop i xs)

  gone : (xs : List X) (i : ℕ) (x : X) → i < length xs → x ≡ get_or (left (suc i) xs) i x
      → p x ≡ false → remove (left (suc i) xs) i ≡ left i xs
  gone [] i x l is e = absurd (omega arith)
  gone (y ∷ ys) zero x l is e = grind arith
  gone (y ∷ ys) (suc i) x l is e = grind (arith, gone ys i x)

  pub taken_out : (xs s : List X) (n i : ℕ) (x : X) → n ≡ suc i → n ≤ length xs → s ≡ left n xs
      → x ≡ get_or s i x → p x ≡ false → remove s i ≡ left i xs
  taken_out xs s n i x next l looked at e = grind (arith, gone xs i x)
