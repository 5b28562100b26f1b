-- Ranks by their letters and symbols.
use Rattle.irc_support.{proofs.Spelling.spelled_by_sound, specs.Tokens.value_of}
use Rattle.irc_support.specs.{Ranking.{Ranking, Spells, ranking_of, spelled_by}, Tokens.Token}
use Rattle.irc_support.specs.{Ranking.{is_ranking, ranking_in}, Text.{Text, has_byte, is_distinct}}
use Rattle.std.proofs.Common.{◌==◌, List, None, Some, arith, codes, position, refl, slice_get, zero}
use Rattle.std.proofs.Common.{◌∷◌, ◌≡◌, ◌≤◌, IsTrue, Option, [], length, suc, true, unwrap_or, ℕ}
use Rattle.std.proofs.lemmas.{Bool.Decides.nat_tests, Option.{slice_get-get_or, slice_get_within}}
use Rattle.std.{proofs.lemmas.List.Quantifiers.position-Some, specs.List.position_or_len}

ranking_in-is : (value : Text) → IsTrue (is_ranking (ranking_in value))
ranking_in-is [] = refl
ranking_in-is (b ∷ value) = read (spelled_by (b ∷ value)) (spelled_by_sound (b ∷ value)) where
  read : (o : Option Ranking) → ((r : Ranking) → o ≡ Some r → Spells (b ∷ value) r) →
      IsTrue (is_ranking (unwrap_or o (record { letters = codes "ov"; symbols = codes "@+" })))
  read None sound = refl
  read (Some r) sound = (sound r refl).ranking

-- whatever the tokens, the ranks are well formed
pub ranking_of-is : (settings : List Token) → IsTrue (is_ranking (ranking_of settings))
unfolding ranking_of
ranking_of-is settings =
    ranking_in-is (unwrap_or (value_of settings (codes "PREFIX")) (codes "(ov)@+"))

-- at most 16 ranks, and no symbol twice
pub few : (r : Ranking) → IsTrue (is_ranking r) →
    (length r.letters ≤ 16) × (is_distinct r.symbols ≡ true)
few r h = grind (arith, nat_tests)

has_at : (xs : Text) (k b : ℕ) → slice_get xs k ≡ Some b → has_byte xs b ≡ true
has_at [] k b at = cc
has_at (x ∷ xs) zero b at = grind (arith, nat_tests)
has_at (x ∷ xs) (suc k) b at = grind (arith, has_at xs k b)

-- in a text in which no byte occurs twice, a byte's place is where it is
place : (xs : Text) (k b : ℕ) → is_distinct xs ≡ true → slice_get xs k ≡ Some b →
    position_or_len (λ c. c == b) xs ≡ k
place [] k b apart at = cc
place (x ∷ xs) zero b apart at = grind (arith, nat_tests)
place (x ∷ xs) (suc k) b apart at = grind (arith, nat_tests, has_at xs k b, place xs k b)

pub position-at : (xs : Text) (k b : ℕ) → is_distinct xs ≡ true → slice_get xs k ≡ Some b →
    position (λ c. c == b) xs ≡ Some k
position-at xs k b apart at = grind (arith, nat_tests, place xs k b, slice_get_within xs k b)

pub at-position : (xs : Text) (k b : ℕ) → position (λ c. c == b) xs ≡ Some k →
    slice_get xs k ≡ Some b
at-position xs k b found =
    let first = position-Some (λ c. c == b) xs k 0 found in
    grind (arith, nat_tests, slice_get-get_or xs k 0)
