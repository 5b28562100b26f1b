-- What a value of PREFIX spells.
use Rattle.irc_support.specs.Ranking.{Ranking, halves_of, is_ranking, prefix_text, spelled_by}
use Rattle.{irc_support.specs.{Ranking.Spells, Text.Text}, std.proofs.lemmas.Bool.Decides.nat_tests}
use Rattle.std.proofs.Common.{◌++◌, ◌+◌, ◌/◌, ◌≡◌, IsTrue, Option, drop, false, length, refl, take}
use Rattle.std.proofs.Common.{◌-◌, ◌∷◌, None, append_assoc, arith, length-append, suc, sym, true, ℕ}
use Rattle.std.proofs.{Common.◌∙◌, Math.Seq.{drop-append-add, drop-append_seam, take-append_seam}}
use Rattle.std.proofs.{Common.{Some, ap}, lemmas.{List.take-append-drop, Slice.Eq.bytes_eq-Decides}}

-- the number of symbols is that of letters, at most 16
pub paired : (r : Ranking) → IsTrue (is_ranking r) → length r.letters ≡ length r.symbols
paired r h = grind (arith, nat_tests)

-- the value after its `(`
abbrev inner : Ranking → Text
inner r = r.letters ++ 41 ∷ r.symbols

prefix_text-inner : (r : Ranking) → prefix_text r ≡ 40 ∷ inner r
prefix_text-inner r = simp append_assoc

-- where the letters end
inner_halves : (r : Ranking) → length r.letters ≡ length r.symbols →
    (take ((length (inner r) - 1) / 2) (inner r) ≡ r.letters) ×
    (drop ((length (inner r) - 1) / 2) (inner r) ≡ 41 ∷ r.symbols)
inner_halves r same =
    let len = length-append r.letters (41 ∷ r.symbols) in
    let half : (length (inner r) - 1) / 2 ≡ length r.letters = omega arith in
    rw half (take-append_seam r.letters _, drop-append_seam r.letters _)

halves_of-prefix_text : (r : Ranking) → length r.letters ≡ length r.symbols →
    halves_of (prefix_text r) ≡ r
halves_of-prefix_text r same =
    let len = length-append r.letters (41 ∷ r.symbols) in
    let half : (suc (length (inner r)) - 2) / 2 ≡ length r.letters = omega arith in
    let behind : length r.letters + 2 ≡ suc (length r.letters + 1) = omega arith in
    ap halves_of (prefix_text-inner r)
    ∙ rw (half, behind, take-append_seam r.letters, drop-append-add r.letters (41 ∷ r.symbols) 1)

pub spelled_by_sound : (value : Text) (r : Ranking) → spelled_by value ≡ Some r → Spells value r
unfolding spelled_by
spelled_by_sound value r h = grind (arith, bytes_eq-Decides)

pub spelled_by_complete : (value : Text) (r : Ranking) → Spells value r → spelled_by value ≡ Some r
unfolding spelled_by
spelled_by_complete value r spells =
    grind (arith, bytes_eq-Decides, halves_of-prefix_text r (paired r spells.ranking))

-- what spells nothing
spelled_by_none : (value : Text) → ((r : Ranking) → Spells value r → ⊥) → None ≡ spelled_by value
spelled_by_none value never = told (spelled_by value) refl
  where
    told : (o : Option Ranking) → spelled_by value ≡ o → None ≡ o
    told None e = refl
    told (Some r) e = absurd (never r (spelled_by_sound value r e))

pub none_without_open : (value : Text) → ((rest : Text) → value ≡ 40 ∷ rest → ⊥) →
    None ≡ spelled_by value
none_without_open value never =
    spelled_by_none value (λ r s. never (inner r) (s.written ∙ prefix_text-inner r))

halves_at : (value rest : Text) (r : Ranking) → value ≡ 40 ∷ rest → Spells value r →
    (take ((length rest - 1) / 2) rest ≡ r.letters) ×
    (drop ((length rest - 1) / 2) rest ≡ 41 ∷ r.symbols)
halves_at value rest r begins s =
    let is : rest ≡ inner r = cc (prefix_text-inner r) in
    rw is (inner_halves r (paired r s.ranking))

pub none_without_close : (value rest back : Text) (n : ℕ) → value ≡ 40 ∷ rest →
    n ≡ length rest - 1 → back ≡ drop (n / 2) rest → ((more : Text) → back ≡ 41 ∷ more → ⊥) →
    None ≡ spelled_by value
none_without_close value rest back n begins count at never =
    spelled_by_none value (λ r s.
    let ends = halves_at value rest r begins s in never r.symbols (cc))

module _ (value rest letters symbols back : Text) (n : ℕ) (begins : value ≡ 40 ∷ rest)
    (count : n ≡ length rest - 1) (front : letters ≡ take (n / 2) rest)
    (at : back ≡ drop (n / 2) rest) (closes : back ≡ 41 ∷ symbols) where
  abbrev split : Ranking
  split = record { letters = letters; symbols = symbols }

  pub some_of_split : is_ranking split ≡ true → Some split ≡ spelled_by value
  some_of_split good =
      let joined = take-append-drop (n / 2) rest in
      let written : value ≡ prefix_text split = cc (prefix_text-inner split) in
      sym (spelled_by_complete value split (record { written = written; ranking = good }))

  pub none_of_split : is_ranking split ≡ false → None ≡ spelled_by value
  none_of_split bad =
      spelled_by_none value (λ r s. let ends = halves_at value rest r begins s in cc)
