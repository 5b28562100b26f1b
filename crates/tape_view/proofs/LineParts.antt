-- What the words and the changes of a line say of one person or letter, and the last of them.
use Rattle.std.specs.FinMap as fin
use Rattle.{irc_support.specs.NamesReply.Word, net_view.specs.Names.name_of}
use Rattle.{net_view.specs.StateLines.{letter_change, setting_by}, tape_view.proofs.Words.Bool}
use Rattle.tape_view.proofs.Words.{ChangeParts, List, Listing, None, Option, Some, Text, Token, []}
use Rattle.tape_view.proofs.Words.{arith, cond, filter_map, is_nameable, is_some, key_by, kind_of}
use Rattle.tape_view.proofs.Words.{last_in, length, list_any, listing, lists, mode_change}
use Rattle.tape_view.proofs.Words.{nat_cmp_total, option_and_then, option_map, rank_in_change, refl}
use Rattle.tape_view.proofs.Words.{same, setting_of, ℕ, ◌&&◌, ◌∷◌, ◌≡◌}

-- parts that are found in others
pub last_found : {A X Y : Type 0} (says : X → Option A) (find : Y → Option X) (ys : List Y)
    → last_in says (filter_map find ys) ≡ last_in (λ y. option_and_then says (find y)) ys
last_found says find [] = refl
last_found says find (y ∷ ys) = grind (arith, last_found says find ys)

-- what a change sets of a letter
abbrev pub sets : List Token → ℕ → ChangeParts → Option (Option (Option Text))
sets settings letter change = option_and_then (setting_of letter) (mode_change settings change)

pub sets_it : (settings : List Token) (letter : ℕ) (change : ChangeParts) → change.letter ≡ letter
    → sets settings letter change ≡ setting_by (kind_of settings letter) change.plus change.param
sets_it settings letter change e =
    grind (arith, nat_cmp_total, fin.nat_cmp-IsAntisymmetric)

pub sets_none : (settings : List Token) (letter : ℕ) (plus : Bool) (other : ℕ)
    (param : Option Text) → (other ≡ letter → ⊥)
    → sets settings letter (record { plus = plus; letter = other; param = param }) ≡ None
sets_none settings letter plus other param ne =
    grind (arith, nat_cmp_total, fin.nat_cmp-IsAntisymmetric)

-- whether a word names the person of this key
abbrev pub names_person : List Token → Text → Word → Bool
names_person s n word = is_nameable word.nick && same n (key_by s word.nick)

-- what a change of a mode says of a rank of the person
abbrev pub rank_set : List Token → Text → ℕ → ChangeParts → Option Bool
rank_set s n rank change = option_and_then (rank_in_change n rank) (letter_change s change)

-- how many members words name
abbrev pub listed_count : List Token → List Word → ℕ
listed_count s ws = length (filter_map (listing s) ws)

-- the word, if it names the person of this key
abbrev pub word_said : List Token → Text → Word → Option Word
word_said s n word = cond (names_person s n word) (Some word) None

module _ (s : List Token) (n : Text) where
  -- what a listing says, if it is this person's, is read off the word
  pub found_in_words : {X : Type 0} (says : Listing → Option X) (f : Word → X) →
      ((word : Word)
      → says (record { person = name_of s word.nick; ranks = word.ranks })
      ≡ cond (same n (key_by s word.nick)) (Some (f word)) None) →
      (words : List Word)
      → last_in says (filter_map (listing s) words)
      ≡ option_map f (last_in (word_said s n) words)
  found_in_words says f read [] = refl
  found_in_words says f read (w ∷ words) = grind (arith, read w, found_in_words says f read words)

  pub any_last : (words : List Word)
      → list_any (names_person s n) words ≡ is_some (last_in (word_said s n) words)
  any_last [] = refl
  any_last (w ∷ words) = rw (any_last words) (grind arith)

  pub lists_words : (words : List Word)
      → lists n (filter_map (listing s) words) ≡ list_any (names_person s n) words
  lists_words [] = refl
  lists_words (w ∷ words) = grind (arith, lists_words words)
