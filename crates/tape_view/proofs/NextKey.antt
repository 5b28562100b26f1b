-- The least key above another, in any order of keys, found among what the lines of a tape bring up.
use Rattle.tape_view.proofs.Words
use Words.{◌≡◌, ◌||◌, ◌∷◌, arith, Bool, true, false, not, List, [], list_any, Ordering, eq_by_cmp}
use Words.{IsTotalOrder, Option, Token, considered_by, IsNextBy, Said, Heard, IsLast}
use Rattle.std.specs.FinMap as fin
use Rattle.std.specs.{Option.IfSome, Option.MatchOption, Ordering.is_lt}
use Rattle.net_view.specs.Least.{above_by, better_by}

-- what IsNextBy says, if the least is sought only among the keys that were seen
pub record IsNextOf {K : Type 0} (R : K → K → Ordering) (there seen : K → Bool)
    (after best : Option K) : Type 0 where
  pub found : IfSome best (λ b. (there b ≡ true) × (above_by R after b ≡ true))
  pub least : (c : K) → seen c ≡ true → there c ≡ true → above_by R after c ≡ true
      → MatchOption best ⊥ (λ b. is_lt (R c b) ≡ false)

-- and if those of a tape were seen that are not among those of what is left of it
pub record IsNextSoFar {K : Type 0} (R : K → K → Ordering) (has : Heard → K → Bool)
    (tape left : Heard) (after best : Option K) : Type 0 where
  pub same_settings : left.settings ≡ tape.settings
  pub so_far : IsNextOf R (has tape) (λ c. not (has left c)) after best

pub next_all : {K : Type 0} {R : K → K → Ordering} (has : Heard → K → Bool) (tape left : Heard)
    (after best : Option K) → ((c : K) → has left c ≡ false)
    → IsNextSoFar R has tape left after best → IsNextBy R (has tape) after best
next_all has tape left after best none h = grind (arith, h.so_far)

module _ {K : Type 0} {R : K → K → Ordering} (o : IsTotalOrder R)
    (exact : fin.IsAntisymmetric R) where
  next_considered : (there seen : K → Bool) (after best : Option K) (c : K)
      → IsNextOf R there seen after best
      → IsNextOf R there (λ q. eq_by_cmp R q c || seen q) after (better_by R there after best c)
  next_considered there seen after best c old = grind arith

  next_keys : (there seen : K → Bool) (names : List K) (after best : Option K)
      → IsNextOf R there seen after best → IsNextOf R there (λ c. list_any (eq_by_cmp R c) names
      || seen c) after (considered_by R there after best names)
  next_keys there seen [] after best old = old
  next_keys there seen (k ∷ names) after best old =
      let new = next_considered there seen after best k old in
      grind (arith, next_keys there (λ c. eq_by_cmp R c k || seen c) names after _ new)

  -- before one more line, which names what it brings up
  pub next_line : {A : Type 0} {tape left older : Heard} {said : Said A}
      (line : IsLast left said older) (has : Heard → K → Bool) (names : List Token → List K)
      (after best new : Option K) → ((c : K) → has left c ≡ true → has older c ≡ false
      → list_any (eq_by_cmp R c) (names left.settings) ≡ true)
      → new ≡ considered_by R (has tape) after best (names tape.settings)
      → IsNextSoFar R has tape left after best → IsNextSoFar R has tape older after new
  next_line {tape = tape} {left = left} line has names after best new brings is old =
      let all = next_keys (has tape) (λ c. not (has left c)) (names tape.settings) after best
      old.so_far in
      grind (arith, line.same_settings, all)
