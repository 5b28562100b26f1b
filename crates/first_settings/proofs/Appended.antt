-- Four or five texts, added one after another.
use Rattle.std.proofs.Common.{◌++◌, ◌≡◌, Err, List, Ok, Result, append_assoc, arith, ℕ}
use Rattle.std.specs.Prelude.{OnOk}

pub four : (o p q s t a b c d : List ℕ) → p ≡ o ++ a → q ≡ p ++ b → s ≡ q ++ c → t ≡ s ++ d
    → t ≡ o ++ (a ++ (b ++ (c ++ d)))
four o p q s t a b c d e f g h = grind (arith, append_assoc)

pub four_on_ok : {T E : Type 0} (r : Result T E) (o p q s t a b c d : List ℕ) → p ≡ o ++ a
    → q ≡ p ++ b → s ≡ q ++ c → OnOk r (t ≡ s ++ d) → OnOk r (t ≡ o ++ (a ++ (b ++ (c ++ d))))
four_on_ok (Ok x) o p q s t a b c d e f g h = four o p q s t a b c d e f g h
four_on_ok (Err x) o p q s t a b c d e f g h = tt

pub five : (o p q s t u a b c d e : List ℕ) → p ≡ o ++ a → q ≡ p ++ b → s ≡ q ++ c → t ≡ s ++ d
    → u ≡ t ++ e → u ≡ o ++ (a ++ (b ++ (c ++ (d ++ e))))
five o p q s t u a b c d e f g h i j = grind (arith, append_assoc)
