-- Clean texts, words and tokens, by their tests.
use Rattle.irc_line.{proofs.Grammar.HasNoSpace, specs.Grammar.{IsToken, IsWord}}
use Rattle.irc_line.specs.{Line.{is_line_byte, is_space}, Writing.{is_token, is_word}}
use Rattle.std.proofs.Common.{List, [], arith, false, refl, true, ℕ, ◌∷◌, ◌≡◌}
use Rattle.std.specs.{List.{AllByRecursion, list_any}, Prelude.IsTrue}

abbrev pub IsClean : List ℕ → Type 0
IsClean text = AllByRecursion (λ b. IsTrue (is_line_byte b)) text

spaceless : (text : List ℕ) → list_any is_space text ≡ false → HasNoSpace text
spaceless [] e = tt
spaceless (b ∷ bs) e = grind (arith, spaceless bs)

spaceless-any : (text : List ℕ) → HasNoSpace text → list_any is_space text ≡ false
spaceless-any [] s = refl
spaceless-any (b ∷ bs) s = rw s.0 (spaceless-any bs s.1)

pub word-test : (param : List ℕ) → IsWord param → is_word param ≡ true
word-test [] w = absurd w
word-test (b ∷ bs) w = rw (w.0, spaceless-any (b ∷ bs) w.1)

pub word-from : (param : List ℕ) → is_word param ≡ true → IsWord param
word-from [] e = cc
word-from (b ∷ bs) e = (grind arith, spaceless (b ∷ bs) (grind arith))

pub token-test : (part : List ℕ) → IsToken part → is_token part ≡ true
token-test [] t = absurd t
token-test (b ∷ bs) t = grind (arith, spaceless-any (b ∷ bs) t)

pub token-from : (part : List ℕ) → is_token part ≡ true → IsToken part
token-from [] e = cc
token-from (b ∷ bs) e = spaceless (b ∷ bs) (grind arith)
