-- Numbers of texts, when one more comes.
use Rattle.std.proofs.Common.{◌≡◌, ◌+◌, ◌<◌, ◌≤◌, ◌∙◌, ℕ, Bool, true, false, cond, nat_lt, List, [], ◌∷◌, ◌++◌, None, Some, length, get_or, unwrap_or, if◌then◌else◌, Vec, refl, sym, ap, arith}
use Rattle.std.specs.List.{list_any, position, position_or_len}
use Rattle.std.specs.Str.{bytes_eq}
use Rattle.std.proofs.lemmas.Bool.{eqb-true}
use Rattle.std.proofs.lemmas.Bool.Decides.{nat_tests}
use Rattle.std.proofs.lemmas.List.Folds.{position_or_len_push}
use Rattle.std.proofs.lemmas.List.Quantifiers.{position-Some}
use Rattle.std.proofs.lemmas.Slice.Eq.{bytes_eq-Decides}
use Rattle.indexmap.specs.IndexSet.{insert_key}
use Rattle.steward.specs.Numbers.{number_in}
use Rattle.steward.proofs.Counts.{not_below}

within_at : {X : Type 0} (p : X → Bool) (x : X) (xs : List X) (b : Bool) → p x ≡ b →
    position_or_len p xs ≤ length xs → position_or_len p (x ∷ xs) ≤ length (x ∷ xs)
within_at p x xs true e h = rw e (omega arith)
within_at p x xs false e h = rw e (omega (arith, h))

within : {X : Type 0} (p : X → Bool) (xs : List X) → position_or_len p xs ≤ length xs
within p [] = omega arith
within p (x ∷ xs) = within_at p x xs (p x) refl (within p xs)

none_passes_at : {X : Type 0} (p : X → Bool) (x : X) (xs : List X) (b : Bool) → p x ≡ b →
    length (x ∷ xs) ≤ position_or_len p (x ∷ xs) →
    (length xs ≤ position_or_len p xs → list_any p xs ≡ false) → list_any p (x ∷ xs) ≡ false
none_passes_at p x xs true e h ih = absurd (omega (arith, rw e at h))
none_passes_at p x xs false e h ih = rw e (ih (omega (arith, rw e at h)))

none_passes : {X : Type 0} (p : X → Bool) (xs : List X) → length xs ≤ position_or_len p xs →
    list_any p xs ≡ false
none_passes p [] h = refl
none_passes p (x ∷ xs) h = none_passes_at p x xs (p x) refl h (none_passes p xs)

-- a text that has no number is none of those that have one
pub none_of : {X : Type 0} (p : X → Bool) (xs : List X) → position p xs ≡ None →
    list_any p xs ≡ false
none_of p xs e = none_passes p xs (not_below (position_or_len p xs) (length xs) _ refl e)

pub length_is : {X : Type 0} (p : X → Bool) (xs : List X) → position p xs ≡ None →
    position_or_len p xs ≡ length xs
length_is p xs e =
    let n = not_below (position_or_len p xs) (length xs) _ refl e in
    let w = within p xs in
    omega (arith, n, w)

some_at : (m n k : ℕ) (b : Bool) → nat_lt m n ≡ b → m < n → m ≡ k → cond b (Some m) None ≡ Some k
some_at m n k true e h i = ap Some i
some_at m n k false e h i = grind (arith, nat_tests)

below_some : (m n k : ℕ) (b : Bool) → nat_lt m n ≡ b → cond b (Some m) None ≡ Some k →
    (m < n) × (m ≡ k)
below_some m n k true e h = (grind (arith, nat_tests), ap (λ o. unwrap_or o 0) h)
below_some m n k false e h = cc

last_at : (a n : ℕ) (t b : Bool) → a ≡ n → b ≡ true → cond t (n + cond b 0 1) a ≡ n
last_at a n true b e f = rw f (omega arith)
last_at a n false b e f = e

longer : {X : Type 0} (xs : List X) (y : X) → length (xs ++ y ∷ []) ≡ length xs + 1
longer [] y = refl
longer (x ∷ xs) y = omega (arith, longer xs y)

-- a new text is numbered by its place, the last one
pub numbered_last : {X : Type 0} (p : X → Bool) (xs : List X) (y : X) → position p xs ≡ None →
    p y ≡ true → position p (xs ++ y ∷ []) ≡ Some (length xs)
numbered_last p xs y e f =
    let q = position_or_len_push p xs y ∙ last_at _ _ _ (p y) (length_is p xs e) f in
    let l = longer xs y in
    some_at _ _ _ _ refl (omega (arith, q, l)) q

before_at : (a n c : ℕ) (t : Bool) → (t ≡ true → a ≡ n) → a < n → cond t c a ≡ a
before_at a n c true e h = absurd (omega (arith, h, e refl))
before_at a n c false e h = refl

-- a text that has a number keeps it
pub number_kept : {X : Type 0} (p : X → Bool) (xs : List X) (y : X) (n : ℕ) →
    position p xs ≡ Some n → position p (xs ++ y ∷ []) ≡ Some n
number_kept p xs y n e =
    let s = below_some _ _ n _ refl e in
    let q = position_or_len_push p xs y ∙ before_at _ _ _ _ (eqb-true _ _) s.0 in
    let l = longer xs y in
    some_at _ _ _ _ refl (omega (arith, q, l, s.0)) (q ∙ s.1)

-- the number of a text that is inserted
pub inserted : {A : Type 0} (eq : Vec ℕ A → Vec ℕ A → Bool) →
    ((a b : Vec ℕ A) → eq a b ≡ bytes_eq a.items b.items) → (keys new : List (Vec ℕ A))
    (text : List ℕ) (y : Vec ℕ A) (n : ℕ) → y.items ≡ text →
    position (λ k. bytes_eq text k.items) keys ≡ None → new ≡ insert_key eq keys y →
    n ≡ position_or_len (eq y) keys → number_in text new ≡ Some n
inserted eq by_bytes keys new text y n e none k i =
    let q : eq y ≡ (λ z. bytes_eq text z.items) = λ j z. (by_bytes y z ∙ ap (λ t. bytes_eq t z.items) e) j in
    let a : list_any (eq y) keys ≡ false = ap (λ p. list_any p keys) q ∙ none_of (λ z. bytes_eq text z.items) keys none in
    let l : position_or_len (eq y) keys ≡ length keys = ap (λ p. position_or_len p keys) q ∙ length_is (λ z. bytes_eq text z.items) keys none in
    let m : new ≡ keys ++ y ∷ [] = k ∙ ap (λ b. if b then keys else keys ++ y ∷ []) a in
    let s = numbered_last (λ z. bytes_eq text z.items) keys y none ((bytes_eq-Decides text y.items).1 (sym e)) in
    ap (number_in text) m ∙ (s ∙ ap Some (sym (i ∙ l)))

apart_from : {A : Type 0} (d : Vec ℕ A) (keys : List (Vec ℕ A)) (a b : List ℕ) (n : ℕ) →
    number_in a keys ≡ Some n → number_in b keys ≡ Some n → a ≡ b
apart_from d keys a b n e f =
    let s = position-Some (λ k. bytes_eq a k.items) keys n d e in
    let t = position-Some (λ k. bytes_eq b k.items) keys n d f in
    (bytes_eq-Decides a (get_or keys n d).items).0 s.1 ∙ sym ((bytes_eq-Decides b (get_or keys n d).items).0 t.1)

-- texts with the same number are the same
pub apart : {A : Type 0} (keys : List (Vec ℕ A)) (a b : List ℕ) (n : ℕ) →
    number_in a keys ≡ Some n → number_in b keys ≡ Some n → a ≡ b
apart [] a b n e f = cc
apart (d ∷ keys) a b n e f = apart_from d (d ∷ keys) a b n e f
