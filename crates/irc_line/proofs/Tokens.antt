-- Tokens and gaps at the front of a text.
use Rattle.irc_line.{proofs.Logic.cases_Bool, specs.{Line.is_space, Reading.after_marked}}
use Rattle.irc_line.specs.Reading.{after_token, body, token, trimmed, untagged}
use Rattle.std.proofs.Common.{List, None, Some, [], ap, append_assoc, arith, drop, inl, inr, length}
use Rattle.std.proofs.Common.{length-append, refl, suc, take, ℕ, ◌++◌, ◌+◌, ◌-◌, ◌∷◌, ◌≡◌, ◌≤◌}
use Rattle.std.proofs.lemmas.{Bool.Decides.nat_tests, List.{drop_all, drop_at, take_all}}
use Rattle.std.specs.List.{position, position_or_len}

-- a token and what is after it are the text
pub token-append : (text : List ℕ) → token text ++ after_token text ≡ text
token-append [] = refl
token-append (b ∷ bs) = grind (arith, token-append bs)

take-one : (n b : ℕ) (bs : List ℕ) → take (1 + n) (b ∷ bs) ≡ b ∷ take n bs
take-one n b bs = let more : 1 + n ≡ suc n = omega arith in rw more

drop-one : (n b : ℕ) (bs : List ℕ) → drop (1 + n) (b ∷ bs) ≡ drop n bs
drop-one n b bs = let more : 1 + n ≡ suc n = omega arith in rw more

-- the first space ends the token
token-is : (text : List ℕ) → (take (position_or_len is_space text) text ≡ token text)
    × (drop (position_or_len is_space text) text ≡ after_token text)
token-is [] = (refl, refl)
token-is (b ∷ bs) = grind (arith, take-one, drop-one, token-is bs)

-- if there is no space, all of the text is a token
pub token-whole : (text : List ℕ) → position is_space text ≡ None →
    (text ≡ token text) × ([] ≡ after_token text)
token-whole text e = let at = token-is text in grind (arith, nat_tests, take_all, drop_all)

pub token-at : (text : List ℕ) (n : ℕ) → position is_space text ≡ Some n →
    (take n text ≡ token text) × (drop n text ≡ after_token text)
token-at text n e = let at = token-is text in grind (arith, nat_tests)

-- one text is at the end of the other
pub record EndsIn (text end : List ℕ) : Type 0 where
  pub front : List ℕ
  pub whole : front ++ end ≡ text

EndsIn-self : (text : List ℕ) → EndsIn text text
EndsIn-self text = record { front = []; whole = refl }

EndsIn-cons : (b : ℕ) (text end : List ℕ) → EndsIn text end → EndsIn (b ∷ text) end
EndsIn-cons b text end e = record { front = b ∷ e.front; whole = cc }

EndsIn-trans : (text mid end : List ℕ) → EndsIn text mid → EndsIn mid end → EndsIn text end
EndsIn-trans text mid end e f = record {
  front = e.front ++ f.front;
  whole = rw append_assoc (cc);
}

pub trimmed-ends : (text : List ℕ) → EndsIn text (trimmed text)
trimmed-ends [] = EndsIn-self []
trimmed-ends (b ∷ bs) =
    elim (cases_Bool (is_space b)) [
      | inl e ↦ rw e (EndsIn-cons b bs (trimmed bs) (trimmed-ends bs))
      | inr e ↦ rw e (EndsIn-self (b ∷ bs))
    ]

pub after_token-ends : (text : List ℕ) → EndsIn text (after_token text)
after_token-ends text = record { front = token text; whole = token-append text }

after_marked-ends : (mark : ℕ) (text : List ℕ) → EndsIn text (after_marked mark text)
after_marked-ends mark [] = EndsIn-self []
after_marked-ends mark (b ∷ bs) =
    let behind =
    EndsIn-cons b bs _
    (EndsIn-trans bs (after_token bs) _ (after_token-ends bs) (trimmed-ends (after_token bs))) in
    let self = EndsIn-self (b ∷ bs) in
    grind arith

EndsIn-body : (text : List ℕ) → EndsIn text (body text)
EndsIn-body text =
    EndsIn-trans text (trimmed text) (body text) (trimmed-ends text)
    (EndsIn-trans (trimmed text) (untagged text) (body text) (after_marked-ends 64 (trimmed text))
    (after_marked-ends 58 (untagged text)))

pub EndsIn-length : (text end : List ℕ) → EndsIn text end → length end ≤ length text
EndsIn-length text end e = grind (arith, length-append)

pub body_length : (text : List ℕ) → length (body text) ≤ length text
body_length text = EndsIn-length text (body text) (EndsIn-body text)

pub body_drop : (text : List ℕ) → drop (length text - length (body text)) text ≡ body text
body_drop text =
    let e = EndsIn-body text in
    let at : length text - length (body text) ≡ length e.front =
    omega (arith, length-append e.front (body text), ap length e.whole) in
    rw at (rw e.whole at (drop_at e.front (body text) _ refl))
