-- Tokens that are written out are read back as they are.
use Rattle.{irc_support.specs.Text.{Text, cut_at, has_byte}, std.proofs.Math.Seq.drop-append-add}
use Rattle.irc_support.specs.Tokens.{Token, after_param, set_tokens, token_of, with_token, without}
use Rattle.irc_support.specs.{Tokens.token_params, Written.{AreTokens, is_token_name, token_text}}
use Rattle.std.proofs.Common.{◌++◌, ◌+◌, ◌==◌, ◌∷◌, ◌≡◌, List, [], fold, map, suc, sym, true, ℕ}
use Rattle.std.proofs.{Common.Bool, lemmas.{Bool.Decides.nat_tests, Slice.Eq.bytes_eq-Decides}}
use Rattle.std.proofs.Common.{None, Some, append-nil, arith, bytes_eq, cond, false, length, refl}
use Rattle.std.{proofs.Common.append_assoc, specs.List.{before_first, list_any, position_or_len}}
use Rattle.std.proofs.{Common.length-append, lemmas.List.{take_all, take_at, Folds.list_any-append}}

abbrev is_equals : ℕ → Bool
is_equals c = c == 61

abbrev pub is_named : Text → Token → Bool
is_named name t = bytes_eq name t.0

-- ---- names

pub same_name : (a b : Text) → bytes_eq a b ≡ true → a ≡ b
same_name a b e = (bytes_eq-Decides a b).0 e

pub other_way : (a b : Text) → bytes_eq a b ≡ false → bytes_eq b a ≡ false
other_way a b e = grind (arith, same_name b a)

-- ---- a token more or less

pub kept_apart : (n : Text) (settings : List Token) (token : Token) →
    list_any (is_named n) settings ≡ false → bytes_eq n token.0 ≡ false →
    list_any (is_named n) (with_token settings token) ≡ false
kept_apart n [] token h e = grind arith
kept_apart n (t ∷ settings) token h e = grind (arith, kept_apart n settings token)

with_one : (settings : List Token) (token : Token) → is_token_name token.0 ≡ true →
    AreTokens settings → AreTokens (with_token settings token)
with_one [] token n all = (n, refl, tt)
with_one (t ∷ settings) token n all =
    grind (arith, kept_apart t.0 settings token, other_way token.0 t.0, with_one settings token n)

pub less_apart : (n : Text) (settings : List Token) (name : Text) →
    list_any (is_named n) settings ≡ false → list_any (is_named n) (without settings name) ≡ false
less_apart n [] name h = refl
less_apart n (t ∷ settings) name h = grind (arith, less_apart n settings name)

without_one : (settings : List Token) (name : Text) → AreTokens settings →
    AreTokens (without settings name)
without_one [] name all = tt
without_one (t ∷ settings) name all =
    grind (arith, less_apart t.0 settings name, without_one settings name)

-- ---- a parameter

before_more : (b : ℕ) (text : Text) →
    before_first is_equals (b ∷ text) ≡ cond (is_equals b) [] (b ∷ before_first is_equals text)
before_more b text =
    let n = position_or_len is_equals text in
    let more : 1 + n ≡ suc n = omega arith in grind (arith, more)

-- the text before the first equals sign has none
before_has_none : (text : Text) → list_any is_equals (before_first is_equals text) ≡ false
before_has_none [] = refl
before_has_none (b ∷ text) = grind (arith, before_more b text, before_has_none text)

after_one : (settings : List Token) (param : Text) → AreTokens settings →
    AreTokens (after_param settings param)
after_one settings [] all = all
after_one settings (b ∷ text) all =
    grind (arith, without_one, with_one, before_more b text, before_has_none text)

after_all : (params : List Text) (settings : List Token) → AreTokens settings →
    AreTokens (fold after_param settings params)
after_all [] settings all = all
after_all (p ∷ params) settings all =
    after_all params (after_param settings p) (after_one settings p all)

-- 005 lines keep the form of the tokens
pub tokens_set : (settings : List Token) (params : List Text) → AreTokens settings →
    AreTokens (set_tokens settings params)
unfolding set_tokens
tokens_set settings params all = after_all (token_params params) settings all

-- ---- what is written out

-- a text is cut at the first such byte
not_found : (b : ℕ) (text : Text) → has_byte text b ≡ false →
    position_or_len (λ c. c == b) text ≡ length text
not_found b [] none = refl
not_found b (c ∷ text) none = grind (arith, not_found b text)

found_behind : (b : ℕ) (front back : Text) → has_byte front b ≡ false →
    position_or_len (λ c. c == b) (front ++ b ∷ back) ≡ length front
found_behind b [] back none = grind (arith, nat_tests)
found_behind b (c ∷ front) back none = grind (arith, found_behind b front back)

pub uncut : (b : ℕ) (text : Text) → has_byte text b ≡ false →
    before_first (λ c. c == b) text ≡ text
uncut b text none = grind (arith, not_found, take_all)

cut_nowhere : (b : ℕ) (text : Text) → has_byte text b ≡ false → cut_at b text ≡ (text, None)
cut_nowhere b text none = grind (arith, nat_tests, not_found, uncut)

cut_behind : (b : ℕ) (front back : Text) → has_byte front b ≡ false →
    cut_at b (front ++ b ∷ back) ≡ (front, Some back)
cut_behind b front back none =
    let at = found_behind b front back none in
    grind (arith, nat_tests, take_at front, drop-append-add front (b ∷ back) 1, length-append)

token_read : (t : Token) → list_any is_equals t.0 ≡ false → token_of (token_text t) ≡ t
token_read (name, None) h = cut_nowhere 61 name h
token_read (name, Some value) h = cut_behind 61 name value h

-- a token that is not there yet goes last
goes_last : (settings : List Token) (t : Token) → list_any (is_named t.0) settings ≡ false →
    with_token settings t ≡ settings ++ t ∷ []
goes_last [] t h = refl
goes_last (u ∷ settings) t h = grind (arith, goes_last settings t)

param_set : (settings : List Token) (t : Token) → is_token_name t.0 ≡ true →
    list_any (is_named t.0) settings ≡ false →
    after_param settings (token_text t) ≡ settings ++ t ∷ []
param_set settings ([], value) n fresh = cc
param_set settings (b ∷ text, None) n fresh =
    grind (arith, token_read (b ∷ text, None), goes_last settings (b ∷ text, None))
param_set settings (b ∷ text, Some value) n fresh =
    grind (arith, token_read (b ∷ text, Some value), goes_last settings (b ∷ text, Some value))

-- of tokens in a row the later ones are not among the earlier ones
fresh_in : (front : List Token) (t : Token) (back : List Token) → AreTokens (front ++ t ∷ back) →
    (is_token_name t.0 ≡ true) × (list_any (is_named t.0) front ≡ false)
fresh_in [] t back all = (all.0, refl)
fresh_in (u ∷ front) t back all =
    grind (arith, list_any-append, other_way u.0 t.0, fresh_in front t back)

read_on : (front back : List Token) → AreTokens (front ++ back) →
    fold after_param front (map token_text back) ≡ front ++ back
read_on front [] all = sym (append-nil front)
read_on front (t ∷ back) all =
    let rest = read_on (front ++ t ∷ []) back in
    grind (arith, fresh_in front t back, param_set front t, append_assoc, rest)

-- tokens in force that are written out are read back to them
pub tokens_read : (settings : List Token) → AreTokens settings →
    fold after_param [] (map token_text settings) ≡ settings
tokens_read settings all = read_on [] settings all
