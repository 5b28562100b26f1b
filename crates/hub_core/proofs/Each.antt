-- What holds of each of a list, and of one of them among the others.
use Rattle.hub_core.proofs.Words.{AllByRecursion, Bool, Delivered, List, Option, OutletState, Parts}
use Rattle.hub_core.proofs.Words.{Sends, SessionState, [], arith, list_any, map, refl, with_outlet}
use Rattle.hub_core.proofs.Words.{◌++◌, ◌∷◌, ◌≡◌}
pub use Rattle.welcome.proofs.EachOf.{each_back, each_front, joined as each_append}

module _ {S : Type 0} (P : S → Type 0) where
  pub each_at : (ss : List S) (s : S) (ts : List S) → AllByRecursion P (ss ++ s ∷ ts) → P s
  each_at ss s ts h = (each_back P ss (s ∷ ts) h).0

  -- it is gone
  pub each_without : (ss : List S) (s : S) (ts : List S) → AllByRecursion P (ss ++ s ∷ ts)
      → AllByRecursion P (ss ++ ts)
  each_without ss s ts h = grind (arith, each_append P, each_front P, each_back P)

  -- another is in its place
  pub each_with : (ss : List S) (s t : S) (ts : List S) → P t → AllByRecursion P (ss ++ s ∷ ts)
      → AllByRecursion P (ss ++ t ∷ ts)
  each_with ss s t ts here h = grind (arith, each_append P, each_front P, each_back P)

-- whether one of those that these are passes a test
pub any_of : {S T : Type 0} (f : S → T) (p : T → Bool) (xs : List S)
    → list_any p (map f xs) ≡ list_any (λ x. p (f x)) xs
any_of f p [] = refl
any_of f p (x ∷ xs) = grind (arith, any_of f p xs)

-- each was sent what it is given, or is gone
pub each_sent : (P Q : SessionState → Type 0) (alone : Bool)
    (give : SessionState → Option (List Parts)) (ss ts : List SessionState)
    → ((s : SessionState) (o : OutletState) → P s → Sends alone s.outlet (give s) o
    → Q (with_outlet s o))
    → AllByRecursion P ss → Delivered alone give ss ts → AllByRecursion Q ts
each_sent P Q alone give [] ts step each d = rw d tt
each_sent P Q alone give (s ∷ ss) ts step each d = grind (arith, step, each_sent P Q alone give ss)
