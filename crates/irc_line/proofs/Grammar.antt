-- What the grammar says is read: a text that spells a line is read as it.
use Rattle.irc_line.{proofs.ParamScan.params-in_word, specs.Grammar.{AreSpaces, IsGap, IsWord}}
use Rattle.irc_line.specs.{Grammar.{Spells, SpellsMarked, SpellsParams}, Line.{Parts, is_command}}
use Rattle.irc_line.specs.{Line.{is_line_byte, is_space}, Reading.{after_marked, after_token}}
use Rattle.irc_line.specs.Reading.{line_of, marked, params_at, token, trimmed}
use Rattle.std.proofs.Common.{Bool, List, None, Option, Some, [], append-nil, append_assoc, arith}
use Rattle.std.proofs.Common.{false, get_or, inl, inr, refl, true, ℕ, ◌++◌, ◌==◌, ◌∷◌, ◌≡◌, ◌⊎◌}
use Rattle.std.{proofs.lemmas.Bool.Decides.nat_tests, specs.Char.is_ascii_alphabetic}
use Rattle.std.specs.{Char.is_ascii_digit, List.{AllByRecursion, list_all}, Prelude.{IsTrue, ◌&&◌}}
use Rattle.std.specs.Prelude.{◌||◌}

-- what follows a token: nothing, or a space first
abbrev pub Stops : List ℕ → Type 0
Stops text = is_space (get_or text 0 32) ≡ true

abbrev pub HasNoSpace : List ℕ → Type 0
HasNoSpace text = AllByRecursion (λ b. is_space b ≡ false) text

gap-stops : (gap rest : List ℕ) → IsGap gap → Stops (gap ++ rest)
gap-stops [] rest g = absurd g
gap-stops (b ∷ bs) rest g = g.0

pub gap-spaces : (gap : List ℕ) → IsGap gap → AreSpaces gap
gap-spaces [] g = absurd g
gap-spaces (b ∷ bs) g = g

token-front : (front rest : List ℕ) → HasNoSpace front → Stops rest →
    (token (front ++ rest) ≡ front) × (after_token (front ++ rest) ≡ rest)
token-front [] [] n s = (refl, refl)
token-front [] (b ∷ bs) n s = rw s (refl, refl)
token-front (b ∷ front) rest n s = grind (arith, token-front front rest n.1 s)

trimmed-spaces : (gap text : List ℕ) → AreSpaces gap → trimmed (gap ++ text) ≡ trimmed text
trimmed-spaces [] text s = refl
trimmed-spaces (b ∷ gap) text s = rw s.0 (trimmed-spaces gap text s.1)

trimmed-first : (text : List ℕ) → is_space (get_or text 0 32) ≡ false → trimmed text ≡ text
trimmed-first [] e = refl
trimmed-first (b ∷ bs) e = rw e refl

trimmed-gap : (text gap rest : List ℕ) → text ≡ gap ++ rest → AreSpaces gap →
    is_space (get_or rest 0 32) ≡ false → trimmed text ≡ rest
trimmed-gap text gap rest whole spaces first = grind (arith, trimmed-spaces, trimmed-first)

params-spaces : (gap text : List ℕ) → AreSpaces gap →
    params_at false (gap ++ text) ≡ params_at false text
params-spaces [] text s = refl
params-spaces (b ∷ gap) text s = rw s.0 (params-spaces gap text s.1)

params-stop : (params : List (List ℕ)) (text : List ℕ) → SpellsParams params text → Stops text
params-stop [] [] s = refl
params-stop [] (b ∷ bs) s = s.0
params-stop (param ∷ params) text s = grind (arith, gap-stops)

params-word : (word rest : List ℕ) → IsWord word → Stops rest →
    params_at false (word ++ rest) ≡ word ∷ params_at false rest
params-word [] rest w s = absurd w
params-word (b ∷ bs) rest w s = grind (arith, params-in_word, token-front)

params-read : (params : List (List ℕ)) (text : List ℕ) → SpellsParams params text →
    params_at false text ≡ params
params-read [] text s = rw append-nil at (params-spaces text [] s)
params-read (param ∷ params) text s =
    grind (arith, params-spaces, gap-spaces, params-word, params-stop, params-read params)

-- a byte of a command: no space, nor what tags, a source or a trailing parameter begin with
pub record IsPlain (b : ℕ) : Type 0 where
  pub space : is_space b ≡ false
  pub at : (b == 64) ≡ false
  pub colon : (b == 58) ≡ false
  pub clean : is_line_byte b ≡ true

each-plain : (p q : Bool) (text : List ℕ) →
    (p && list_all is_ascii_alphabetic text || (q && list_all is_ascii_digit text)) ≡ true →
    AllByRecursion IsPlain text
each-plain p q [] e = tt
each-plain p q (b ∷ bs) e = (
  plain (list_all is_ascii_alphabetic bs) (list_all is_ascii_digit bs) e,
  each-plain p q bs (grind arith),
)
  where
    plain : (r s : Bool) →
        (p && (is_ascii_alphabetic b && r) || (q && (is_ascii_digit b && s))) ≡ true → IsPlain b
    plain r s e = grind (arith, nat_tests)

command-first : (command rest : List ℕ) → is_command command ≡ true →
    IsPlain (get_or (command ++ rest) 0 32)
command-first [] rest e = cc
command-first (b ∷ bs) rest e = (each-plain _ _ (b ∷ bs) e).0

plain-all : (text : List ℕ) → AllByRecursion IsPlain text →
    HasNoSpace text × (list_all is_line_byte text ≡ true)
plain-all [] p = (tt, refl)
plain-all (b ∷ bs) p = let more = plain-all bs p.1 in ((p.0.space, more.0), grind arith)

pub command-all : (text : List ℕ) → is_command text ≡ true →
    HasNoSpace text × (list_all is_line_byte text ≡ true)
command-all text e = plain-all text (each-plain _ _ text e)

-- a marked part is empty, or begins with its mark
marked-first : (mark : ℕ) (part : Option (List ℕ)) (text rest : List ℕ) →
    SpellsMarked mark part text →
    (get_or (text ++ rest) 0 32 ≡ mark) ⊎ (get_or (text ++ rest) 0 32 ≡ get_or rest 0 32)
marked-first mark None text rest s = inr (rw s refl)
marked-first mark (Some part) text rest s = inl (rw s.3 refl)

pub record IsMarked (mark : ℕ) (part : Option (List ℕ)) (text rest : List ℕ) : Type 0 where
  pub is : marked mark text ≡ part
  pub after : after_marked mark text ≡ rest

marked-of : (mark p : ℕ) (ps gap rest : List ℕ) → HasNoSpace (p ∷ ps) → IsGap gap →
    is_space (get_or rest 0 32) ≡ false →
    IsMarked mark (Some (p ∷ ps)) (mark ∷ (((p ∷ ps) ++ gap) ++ rest)) rest
marked-of mark p ps gap rest n g first =
    let front = token-front (p ∷ ps) (gap ++ rest) n (gap-stops gap rest g) in
    let back = trimmed-gap (gap ++ rest) gap rest refl (gap-spaces gap g) first in
    rw (append_assoc ps gap rest) (grind (arith, nat_tests))

marked-read : (mark : ℕ) (part : Option (List ℕ)) (text rest : List ℕ) →
    SpellsMarked mark part text → is_space (get_or rest 0 32) ≡ false →
    (get_or rest 0 32 == mark) ≡ false → IsMarked mark part (text ++ rest) rest
marked-read mark None text [] s n m = cc
marked-read mark None text (b ∷ bs) s n m = rw s (grind arith)
marked-read mark (Some []) text rest s n m = absurd s.0
marked-read mark (Some (p ∷ ps)) text rest s n m = rw s.3 (marked-of mark p ps s.1 rest s.0 s.2 n)

pub all-clean : (text : List ℕ) → AllByRecursion (λ b. IsTrue (is_line_byte b)) text →
    list_all is_line_byte text ≡ true
all-clean [] c = refl
all-clean (b ∷ bs) c = rw c.0 (all-clean bs c.1)

-- what the grammar says is what is read
pub spelled-read : (line : Parts) (text : List ℕ) → Spells line text → line_of text ≡ Some line
spelled-read line text s =
    let y = line.command ++ s.params in
    let z = s.source ++ y in
    let y-first = command-first line.command s.params s.with_command in
    let z-first = marked-first 58 line.source s.source y s.with_source in
    let x-first = marked-first 64 line.tags s.tags z s.with_tags in
    let tags = marked-read 64 line.tags s.tags z s.with_tags (grind arith) (grind arith) in
    let source = marked-read 58 line.source s.source y s.with_source y-first.space y-first.colon in
    let front =
    token-front line.command s.params (command-all line.command s.with_command).0
    (params-stop line.params s.params s.with_params) in
    rw (trimmed-gap text s.indent (s.tags ++ z) s.whole s.indented (grind arith), tags.is)
    (rw (tags.after, source.is, source.after, front.0, front.1, all-clean text s.clean)
    (rw (s.with_command, params-read line.params s.params s.with_params)))
