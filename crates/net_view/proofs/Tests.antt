-- Answers that are true or false, and options.
pub use Rattle.std.proofs.lemmas.List.Folds.{list_any-append as any_append}
use Rattle.net_view.proofs.Words.{◌++◌, ◌||◌, ◌∷◌, ◌≡◌, Bool, List, Option, [], arith, false}
use Rattle.net_view.proofs.Words.{is_some, list_any, option_map, refl, true}
pub use Rattle.irc_line.proofs.Logic.{and_parts, no_true, none_of_is_some}

pub or_false : (a b : Bool) → (a || b) ≡ false → (a ≡ false) × (b ≡ false)
or_false a b e = grind arith

pub absent : {A : Type 0} (p : A → Bool) (xs ys : List A) → list_any p (xs ++ ys) ≡ false
    → (list_any p xs ≡ false) × (list_any p ys ≡ false)
absent p xs ys h = grind (arith, any_append)

pub any_false : {A : Type 0} (p : A → Bool) (xs : List A) → ((x : A) → p x ≡ false)
    → list_any p xs ≡ false
any_false p [] h = refl
any_false p (x ∷ xs) h = grind (arith, any_false p xs h)

pub both_or_neither : (a b : Bool) → (a ≡ true → b ≡ true) → (b ≡ true → a ≡ true) → a ≡ b
both_or_neither a b f g = grind arith

pub is_some_map : {A B : Type 0} (f : A → B) (o : Option A) → is_some (option_map f o) ≡ is_some o
is_some_map f o = grind arith
