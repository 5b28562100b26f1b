-- Small facts on Bool and Option. Those of std are here too, so that a crate has one place to cite.
use Rattle.std.proofs.Common.{Bool, None, Option, arith, false, is_some, suc, true, ℕ, ◌&&◌, ◌==◌}
use Rattle.std.{proofs.{Common.{◌||◌, ◌≡◌}, lemmas.Bool.Decides.nat_tests}, specs.Option.option_or}
pub use Rattle.std.proofs.lemmas.Bool.{and_from, and_parts, cases_Bool, not-false, not-true}
pub use Rattle.std.proofs.lemmas.{Bool.{or_cases, or_from, or_parts}, Option.{cond_some, none-some}}
pub use Rattle.std.proofs.lemmas.Option.{same_Some}

module _ (a b : Bool) where
  pub and_first : (a && b) ≡ true → a ≡ true
  and_first e = grind arith

  pub and_second : (a && b) ≡ true → b ≡ true
  and_second e = grind arith

  pub or_first : (a || b) ≡ false → a ≡ false
  or_first e = grind arith

  pub or_second : (a || b) ≡ false → b ≡ false
  or_second e = grind arith

pub and_false : (b : Bool) → (b && false) ≡ false
and_false b = grind arith

pub or_false : (b : Bool) → (b || false) ≡ b
or_false b = grind arith

pub or_true : (b : Bool) → (b || true) ≡ true
or_true b = grind arith

pub no_true : false ≡ true → ⊥
no_true e = cc

pub or_none : {A : Type 0} (o : Option A) → option_or o None ≡ o
or_none o = grind arith

pub none_of_is_some : {A : Type 0} (o : Option A) → is_some o ≡ false → o ≡ None
none_of_is_some o e = grind arith

pub not_zero : (n : ℕ) → (suc n == 0) ≡ false
not_zero n = grind (arith, nat_tests)

-- for `search` and `simp`, which do not split cases; `grind` proves all this by itself
pub ruleset parts = (and_first, and_second, or_first, or_second, not-true, not-false)

pub ruleset ends = (and_false, or_false, or_true, or_none, none_of_is_some, not_zero)

pub ruleset logic = (parts, ends)
