-- The next of some digits.
use Rattle.std.proofs.Common.{List, arith, get_or, length, take, true, ℕ, ◌*◌, ◌+◌, ◌-◌, ◌<◌, ◌≡◌, ◌≤◌}
use Rattle.std.proofs.lemmas.{Bool.Decides.nat_tests, Int.Digits.digits_value_more}
use Rattle.std.proofs.lemmas.{List.Sums.AllPass-from_list_all, Str.digit_value_digit}
use Rattle.std.specs.{Char.is_ascii_digit, List.list_all, Str.Parse.digits_value}

pub record NextDigit (digits : List ℕ) (i digit : ℕ) : Type 0 where
  pub low : 48 ≤ digit
  pub high : digit ≤ 57
  pub value : digits_value 10 (take (i + 1) digits) ≡ digits_value 10 (take i digits) * 10 + (digit - 48)

between : (c : ℕ) → is_ascii_digit c ≡ true → (48 ≤ c) × (c ≤ 57)
between c e = grind (arith, nat_tests)

pub next_digit : (digits : List ℕ) (i : ℕ) → list_all is_ascii_digit digits ≡ true → i < length digits
    → NextDigit digits i (get_or digits i 0)
next_digit digits i all within =
    let range = between _ (AllPass-from_list_all is_ascii_digit digits all i 0 within) in
    record {
      low = range.0;
      high = range.1;
      value = omega (arith, digits_value_more 10 digits i within, digit_value_digit _ range);
    }
