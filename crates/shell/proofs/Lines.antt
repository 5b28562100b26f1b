-- Small facts on the first line of what is held.
use Rattle.std.proofs.Common.{◌≡◌, ◌==◌, ◌≤◌, ◌+◌, ◌-◌, ◌++◌, ℕ, Bool, List, [], ◌∷◌, inl, inr}
use Rattle.std.proofs.Common.{zero, suc, not, cond, length, take, drop, subst, ap, ◌∙◌, arith}
use Rattle.std.proofs.lemmas.List.{length-append, length-drop, length-take-le, take-append-le}
use Rattle.std.proofs.lemmas.List.{take-take}
use Rattle.std.specs.List.{position_or_len, prefix_len}
use Rattle.irc_line.specs.Lines.{HasNoLf}
use Rattle.irc_line.proofs.Logic.{cases_Bool}
use Rattle.shell.specs.Held.{line_length}

-- ---- the items at the front that pass a test

prefix-grows : {X : Type 0} (p : X → Bool) (xs ys : List X)
    → prefix_len p xs ≤ prefix_len p (xs ++ ys)
prefix-grows p [] ys = omega arith
prefix-grows p (x ∷ xs) ys = elim (cases_Bool (p x)) [
  | inl e ↦ rw e (omega (arith, prefix-grows p xs ys))
  | inr e ↦ rw e (omega arith)
]

prefix-left : {X : Type 0} (p : X → Bool) (m : ℕ) (xs : List X)
    → prefix_len p xs ≤ m + prefix_len p (drop m xs)
prefix-left p zero xs = omega arith
prefix-left p (suc m) [] = omega arith
prefix-left p (suc m) (x ∷ xs) = elim (cases_Bool (p x)) [
  | inl e ↦ rw e (omega (arith, prefix-left p m xs))
  | inr e ↦ rw e (omega arith)
]

-- ---- the first line

-- a line does not get shorter by what comes after it
pub line_grows : (held more : List ℕ) → line_length held ≤ line_length (held ++ more)
line_grows held more =
    omega (arith, prefix-grows (λ b. not (b == 10)) held more, length-append held more)

-- the same of what was held and grew
pub line_grown : (held new : List ℕ) → (more : List ℕ) × (new ≡ held ++ more)
    → line_length held ≤ line_length new
line_grown held new grown = rw grown.1 (line_grows held grown.0)

-- what is left of a line after its front
pub line_left : (n m : ℕ) (held : List ℕ) → n ≤ line_length held → n - m ≤ line_length (drop m held)
line_left n m held h =
    omega (arith, prefix-left (λ b. not (b == 10)) m held, length-drop m held)

-- the bytes before the first LF are none
front-clean : (k : ℕ) (held : List ℕ) → k ≤ position_or_len (λ b. b == 10) held
    → HasNoLf (take k held)
front-clean zero held h = tt
front-clean (suc k) [] h = tt
front-clean (suc k) (b ∷ held) h =
    let rest = prefix_len (λ b. not (b == 10)) held in
    let fits : Bool → Type 0 = λ test. suc k ≤ cond (not test) (1 + rest) 0 in
    elim (cases_Bool (b == 10)) [
      | inl e ↦ absurd (omega (arith, subst fits e h))
      | inr e ↦ (e, front-clean k held (omega (arith, subst fits e h)))
    ]

-- no LF is handed on with a front of the first line, except as its last byte
pub line_stops : (n : ℕ) (held left buf : List ℕ) → held ≡ take n buf ++ left → n ≤ length buf
    → n ≤ line_length held → HasNoLf (take (n - 1) buf)
line_stops n held left buf whole fits few =
    let same : take (n - 1) held ≡ take (n - 1) buf =
    ap (take (n - 1)) whole
    ∙ take-append-le (n - 1) (take n buf) left (omega (arith, length-take-le n buf fits))
    ∙ take-take (n - 1) n buf (omega arith) in
    subst HasNoLf same (front-clean (n - 1) held (omega arith))
