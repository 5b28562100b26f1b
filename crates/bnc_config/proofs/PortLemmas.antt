-- A port as `parse` reads it.
use Rattle.{bnc_config.specs.Text.is_port, std.proofs.Common.{Err, List, [], arith, false, refl}}
use Rattle.std.proofs.Common.{rules, sym, true, ℕ, ◌<◌, ◌^◌, ◌∷◌, ◌≡◌}
use Rattle.std.proofs.lemmas.{Bool.Decides.nat_tests, Str.Parse.{IsNumeralModel, numerals_by_value}}
use Rattle.std.{proofs.lemmas.Str.Parse.parse_digits, specs.{Char.is_ascii_digit, List.list_all}}
use Rattle.std.specs.Str.Parse.{ParsesUnsigned, digits_value}

own : IsNumeralModel (λ ds. list_all is_ascii_digit ds ≡ true) (digits_value 10)
own = numerals_by_value _ (search rules)

-- digits of which no number of 16 bits was read are no port: there are none, or the number is too
-- large
pub is_port-err : (E : Type 0) (text : List ℕ) (e : E) → ParsesUnsigned {E = E} 16 10 text (Err e)
    → true ≡ list_all is_ascii_digit text → false ≡ is_port text
is_port-err E [] e read digits = refl
is_port-err E (c ∷ cs) e read digits =
    let none = parse_digits own 16 (c ∷ cs) (Err e) read (sym digits) in
    let large : digits_value 10 (c ∷ cs) < 2 ^ 16 → ⊥ = λ small. none (omega arith, small) in
    rw (← digits) (grind (arith, nat_tests))
