-- Texts joined one by one.
use Rattle.client_caps.proofs.Words.{◌++◌, ◌+◌, ◌<◌, ◌∷◌, ◌≡◌, Bool, List, Text, [], append-nil}
use Rattle.client_caps.proofs.Words.{append_assoc, arith, cond, drop, false, join_with_byte, length}
use Rattle.{client_caps.proofs.Words.{map, true, ℕ}, std.proofs.Common.{drop-cons, get_or}}
use Rattle.std.proofs.lemmas.List.{drop_all}

-- a text so far, and the texts after it; the first is joined with no byte before it
abbrev pub joined_on : ℕ → Bool → Text → List Text → Text
joined_on b true so_far texts = so_far ++ join_with_byte b texts
joined_on b false so_far [] = so_far
joined_on b false so_far (t ∷ ts) = so_far ++ b ∷ join_with_byte b (t ∷ ts)

-- one more
pub joined_more : (b : ℕ) (first : Bool) (so_far t : Text) (ts : List Text)
    → joined_on b first so_far (t ∷ ts)
    ≡ joined_on b false (cond first so_far (so_far ++ b ∷ []) ++ t) ts
joined_more b first so_far t ts = grind (arith, append_assoc)

-- none left
pub joined_whole : (b : ℕ) (first : Bool) (so_far : Text) → joined_on b first so_far [] ≡ so_far
joined_whole b first so_far = grind (arith, append-nil)

-- those that are left at a place are the one there and those left after it
pub next_left : {X Y : Type 0} (f : X → Y) (xs : List X) (i : ℕ) (d : X) → i < length xs
    → map f (drop i xs) ≡ f (get_or xs i d) ∷ map f (drop (i + 1) xs)
next_left f xs i d within = grind (arith, drop-cons xs i d within)

-- a loop that joins texts
pub ruleset joined_steps = (joined_more, joined_whole, next_left, drop_all, append_assoc)
