-- A nick that is cut, and gets two digits, is one that we can have.
use Rattle.irc_names.specs.Nick.{is_nameable, is_outside_nick}
use Rattle.shell.specs.NickCut.{kept_of}
use Rattle.std.proofs.Common.{Bool, IsTrue, List, [], arith, false, refl, suc, take, zero, ℕ}
use Rattle.std.proofs.Common.{◌++◌, ◌+◌, ◌<◌, ◌∷◌, ◌≡◌, ◌≤◌}
use Rattle.std.proofs.lemmas.{Bool.{Decides.nat_tests, both_ways}, List.Folds.list_any-append}
use Rattle.std.specs.List.{list_any}

-- a part of a list has nothing that the list has not
none_in_part : (p : ℕ → Bool) (xs : List ℕ) (k : ℕ) → list_any p xs ≡ false
    → list_any p (take k xs) ≡ false
none_in_part p xs zero h = refl
none_in_part p [] (suc k) h = refl
none_in_part p (x ∷ xs) (suc k) h = grind (arith, none_in_part p xs k)

-- a digit can be in a nick
pub digit_within : (n : ℕ) → n < 10 → is_outside_nick (48 + n) ≡ false
digit_within n h = grind (arith, nat_tests)

pub nameable_cut : (nick : List ℕ) (k a b : ℕ) → IsTrue (is_nameable nick) → 1 ≤ k
    → is_outside_nick a ≡ false → is_outside_nick b ≡ false
    → IsTrue (is_nameable (take k nick ++ a ∷ b ∷ []))
nameable_cut [] k a b h some one two = absurd (both_ways (is_nameable []) refl h)
nameable_cut (x ∷ xs) zero a b h some one two = absurd (omega (arith, some))
nameable_cut (x ∷ xs) (suc k) a b h some one two =
    rw (list_any-append is_outside_nick (take k xs) (a ∷ b ∷ []))
    (grind (arith, none_in_part is_outside_nick xs k))

-- something of it is kept
pub some_kept : (nick : List ℕ) (room : ℕ) → IsTrue (is_nameable nick) → 1 ≤ kept_of nick room
some_kept [] room h = absurd (both_ways (is_nameable []) refl h)
some_kept (x ∷ xs) room h = grind (arith, nat_tests)
