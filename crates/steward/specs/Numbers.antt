-- Texts and their numbers.
use Rattle.std.specs.Prelude.{ℕ, List, Option, Vec, position}
use Rattle.std.specs.Str.{bytes_eq}

-- the number of a text: the place at which it is (our own choice)
abbrev pub number_in : {A : Type 0} → List ℕ → List (Vec ℕ A) → Option ℕ
number_in text keys = position (λ k. bytes_eq text k.items) keys
