-- The parameters of a text, taken one by one from its front.
use Rattle.irc_line.proofs.Tokens.{EndsIn-length, after_token-ends, trimmed-ends}
use Rattle.irc_line.specs.{Line.is_space, Reading.{after_token, params_at, token, trimmed}}
use Rattle.std.proofs.Common.{List, [], arith, drop, false, get_or, length, refl, true, ℕ, ◌<◌, ◌∷◌}
use Rattle.std.proofs.{Common.◌≡◌, lemmas.Bool.Decides.nat_tests}

pub params-trimmed : (text : List ℕ) → params_at false (trimmed text) ≡ params_at false text
params-trimmed [] = refl
params-trimmed (b ∷ bs) = grind (arith, params-trimmed bs)

-- in a word, the rest of that word comes first
pub params-in_word : (text : List ℕ) →
    params_at true text ≡ token text ∷ params_at false (after_token text)
params-in_word [] = refl
params-in_word (b ∷ bs) = grind (arith, params-in_word bs)

-- a text without spaces at its front begins with none
trimmed-first : (text : List ℕ) → is_space (get_or (trimmed text) 0 0) ≡ false
trimmed-first [] = refl
trimmed-first (b ∷ bs) = grind (arith, trimmed-first bs)

-- a text that begins with no space, and with no colon or with one
module _ (b : ℕ) (bs : List ℕ) (space : is_space b ≡ false) where
  at-colon : b ≡ 58 → params_at false (b ∷ bs) ≡ drop 1 (b ∷ bs) ∷ []
  at-colon colon = grind (arith, nat_tests)

  at-word : (b ≡ 58 → ⊥) →
      params_at false (b ∷ bs) ≡ token (b ∷ bs) ∷ params_at false (after_token (b ∷ bs))
  at-word other = grind (arith, nat_tests, params-in_word)

  shorter : length (after_token (b ∷ bs)) < length (b ∷ bs)
  shorter = let behind = EndsIn-length bs _ (after_token-ends bs) in grind arith

-- what is left of a text without the spaces at its front
pub params-none : (text front : List ℕ) → front ≡ trimmed text → length front ≡ 0 →
    params_at false text ≡ []
params-none text [] is none = cc (params-trimmed text)
params-none text (b ∷ bs) is none = absurd (omega arith)

-- after a colon all is one parameter
pub params-trailing : (text front : List ℕ) → front ≡ trimmed text → 0 < length front →
    get_or front 0 0 ≡ 58 → params_at false text ≡ drop 1 front ∷ []
params-trailing text [] is some colon = absurd (omega arith)
params-trailing text (b ∷ bs) is some colon =
    cc (params-trimmed text, at-colon b bs (rw (← is) at (trimmed-first text)) colon)

-- else a token comes first
pub params-first : (text front : List ℕ) → front ≡ trimmed text → 0 < length front →
    (get_or front 0 0 ≡ 58 → ⊥) →
    params_at false text ≡ token front ∷ params_at false (after_token front)
params-first text [] is some other = absurd (omega arith)
params-first text (b ∷ bs) is some other =
    cc (params-trimmed text, at-word b bs (rw (← is) at (trimmed-first text)) other)

-- a token takes at least a byte
pub after_token-shorter : (text front : List ℕ) → front ≡ trimmed text → 0 < length front →
    length (after_token front) < length text
after_token-shorter text [] is some = absurd (omega arith)
after_token-shorter text (b ∷ bs) is some =
    let less = shorter b bs (rw (← is) at (trimmed-first text)) in
    let short = rw (← is) at (EndsIn-length text (trimmed text) (trimmed-ends text)) in
    omega arith
