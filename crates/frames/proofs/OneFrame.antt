-- A frame that is read is the frame that was written, and a part of a frame is none.
use Rattle.std.proofs.Common.{◌≡◌, ℕ, ◌+◌, ◌-◌, ◌^◌, ◌<◌, ◌≤◌, [], Bool, true, false, cond, ltb, not, List, ◌++◌, length, get_or, take, drop, Option, Some, None, refl, sym, ap, ◌∙◌, append_assoc, arith, inl, inr, Bor}
use Rattle.std.specs.Prelude.{IfNone, IfSome, option_map}
use Rattle.std.specs.Int.{w32, from_be_bytes, to_be_bytes}
use Rattle.std.specs.Str.{bytes_eq}
use Rattle.std.proofs.lemmas.Bool.{cases_lt, ltb-false, le-ltb, lt-ltb}
use Rattle.std.proofs.lemmas.List.{take_at, drop_at, take-append-drop, length-append, length-take, length-take-le, get_or-take, get_or_past}
use Rattle.std.proofs.lemmas.Slice.Eq.{bytes_eq-Decides}
use Rattle.std.proofs.lemmas.Nat.{be_bytes_4, from_be_bytes-to_be_bytes_4}
use Rattle.std.proofs.Math.Seq.{take-append-add}
use Rattle.sha2.specs.Sha256.{sha256}
use Rattle.sha2.proofs.Facts256.{length-sha256}
use Rattle.frames.specs.Frames.{frame, frame_at, frame_of, size_in}

abbrev pub IsBytes : List ℕ → Type 0
IsBytes bytes = (i : ℕ) → get_or bytes i 0 < 256

IsBytes-take : (n : ℕ) (bytes : List ℕ) → IsBytes bytes → IsBytes (take n bytes)
IsBytes-take n bytes h i =
    elim (cases_lt i n) [
      | inl lt ↦ rw (get_or-take n bytes i 0 lt) (h i)
      | inr le ↦ rw (get_or_past (take n bytes) i 0 (omega (arith, length-take n bytes))) (omega arith)
    ]

-- a test that did not fail
guard_some : {A : Type 0} (b : Bool) (x : Option A) (y : A) → cond b None x ≡ Some y → (b ≡ false) × (x ≡ Some y)
guard_some true x y e = absurd cc
guard_some false x y e = (refl, e)

-- ---- what a frame begins with

abbrev pub head : List ℕ → List ℕ
head p = to_be_bytes w32 (length p) ++ sha256 p

pub head_long : (p : List ℕ) → length (head p) ≡ 36
head_long p = omega (arith, length-append (to_be_bytes w32 (length p)) (sha256 p), length-sha256 p)

pub headed : (p rest : List ℕ) → frame p ++ rest ≡ head p ++ (p ++ rest)
headed p rest = ap (λ (t : List ℕ). t ++ rest) (sym (append_assoc (to_be_bytes w32 (length p)) (sha256 p) p)) ∙ append_assoc (head p) p rest

pub frame_long : (p : List ℕ) → length (frame p) ≡ 36 + length p
frame_long p = omega (arith, length-append (to_be_bytes w32 (length p)) (sha256 p ++ p), length-append (sha256 p) p, length-sha256 p)

size_head : (p : List ℕ) → length p < 2 ^ 32 → size_in (head p) ≡ length p
size_head p fits =
    ap (from_be_bytes w32) (take_at (to_be_bytes w32 (length p)) (sha256 p) 4 refl) ∙ from_be_bytes-to_be_bytes_4 (length p) fits

digest_head : (p : List ℕ) → drop 4 (head p) ≡ sha256 p
digest_head p = drop_at (to_be_bytes w32 (length p)) (sha256 p) 4 refl

-- ---- what was written is read

of_head : (p rest : List ℕ) → length p < 2 ^ 32 → frame_of (head p) (p ++ rest) ≡ Some (p, rest)
of_head p rest fits =
    let size = size_head p fits in
    let front : take (length p) (p ++ rest) ≡ p = take_at p rest (length p) refl in
    let back : drop (length p) (p ++ rest) ≡ rest = drop_at p rest (length p) refl in
    let long : ltb (length (p ++ rest)) (length p) ≡ false = le-ltb _ _ (omega (arith, length-append p rest)) in
    let same : bytes_eq (sha256 p) (sha256 p) ≡ true = (bytes_eq-Decides (sha256 p) (sha256 p)).1 refl in
    rw (size, long, front, back, digest_head p, same) refl

pub frame_again : (p rest : List ℕ) → length p < 2 ^ 32 → frame_at (frame p ++ rest) ≡ Some (p, rest)
unfolding frame_at
frame_again p rest fits =
    let long : ltb (length (head p ++ (p ++ rest))) 36 ≡ false = le-ltb _ _ (omega (arith, length-append (head p) (p ++ rest), head_long p)) in
    let front : take 36 (head p ++ (p ++ rest)) ≡ head p = take_at (head p) (p ++ rest) 36 (head_long p) in
    let back : drop 36 (head p ++ (p ++ rest)) ≡ p ++ rest = drop_at (head p) (p ++ rest) 36 (head_long p) in
    ap frame_at (headed p rest) ∙ rw (long, front, back) (of_head p rest fits)

-- ---- what is read was written

below_32 : (bytes : List ℕ) → IsBytes bytes → from_be_bytes w32 bytes < 2 ^ 32
below_32 bytes fits = omega (arith, fits 0, fits 1, fits 2, fits 3)

same_some : {A : Type 0} (x y : A) → Some x ≡ Some y → x ≡ y
same_some x y e = cc

pub some_pair : (x y : List ℕ × List ℕ) → Some x ≡ Some y → (x.0 ≡ y.0) × (x.1 ≡ y.1)
some_pair x y e =
    let same = same_some x y e in
    (ap (λ (t : List ℕ × List ℕ). t.0) same, ap (λ (t : List ℕ × List ℕ). t.1) same)

not_false : (b : Bool) → not b ≡ false → b ≡ true
not_false true e = refl
not_false false e = absurd cc

-- the texts of a head and what comes after it
joined : (head_now body p rest : List ℕ) → to_be_bytes w32 (length p) ≡ take 4 head_now → drop 4 head_now ≡ sha256 p → body ≡ p ++ rest → head_now ++ body ≡ frame p ++ rest
joined head_now body p rest number digest parts =
    let halves : head_now ≡ head p = sym (take-append-drop 4 head_now) ∙ ap (λ (t : List ℕ). t ++ drop 4 head_now) (sym number) ∙ ap (λ (t : List ℕ). to_be_bytes w32 (length p) ++ t) digest in
    ap (λ (t : List ℕ). t ++ body) halves ∙ ap (λ (t : List ℕ). head p ++ t) parts ∙ sym (headed p rest)

of_found : (head_now body p rest : List ℕ) → IsBytes head_now → length head_now ≡ 36 → frame_of head_now body ≡ Some (p, rest) → (head_now ++ body ≡ frame p ++ rest) × (length p < 2 ^ 32)
of_found head_now body p rest fits len e =
    let size = size_in head_now in
    let g = guard_some (ltb (length body) size) (cond (not (bytes_eq (drop 4 head_now) (sha256 (take size body)))) None (Some (take size body, drop size body))) (p, rest) e in
    let h = guard_some (not (bytes_eq (drop 4 head_now) (sha256 (take size body)))) (Some (take size body, drop size body)) (p, rest) g.1 in
    let pair = some_pair (take size body, drop size body) (p, rest) h.1 in
    let digest : drop 4 head_now ≡ sha256 p = (bytes_eq-Decides (drop 4 head_now) (sha256 (take size body))).0 (not_false _ h.0) ∙ ap sha256 pair.0 in
    let long : size ≤ length body = ltb-false _ _ g.0 in
    let len_p : length p ≡ size = ap length (sym pair.0) ∙ length-take-le size body long in
    let four : length (take 4 head_now) ≡ 4 = length-take-le 4 head_now (omega arith) in
    let number : to_be_bytes w32 (length p) ≡ take 4 head_now = be_bytes_4 (take 4 head_now) (length p) four (IsBytes-take 4 head_now fits) len_p in
    let parts : body ≡ p ++ rest = sym (take-append-drop size body) ∙ ap (λ (t : List ℕ). t ++ drop size body) pair.0 ∙ ap (λ (t : List ℕ). p ++ t) pair.1 in
    let small : size < 2 ^ 32 = below_32 (take 4 head_now) (IsBytes-take 4 head_now fits) in
    (joined head_now body p rest number digest parts, omega (arith, small, len_p))

pub frame_found : (bytes p rest : List ℕ) → IsBytes bytes → frame_at bytes ≡ Some (p, rest) → (bytes ≡ frame p ++ rest) × (length p < 2 ^ 32)
unfolding frame_at
frame_found bytes p rest fits e =
    let g = guard_some (ltb (length bytes) 36) (frame_of (take 36 bytes) (drop 36 bytes)) (p, rest) e in
    let long : 36 ≤ length bytes = ltb-false _ _ g.0 in
    let f = of_found (take 36 bytes) (drop 36 bytes) p rest (IsBytes-take 36 bytes fits) (length-take-le 36 bytes long) g.1 in
    (sym (take-append-drop 36 bytes) ∙ f.0, f.1)

-- ---- a part of a frame is none

pub frame_none : frame_at [] ≡ None
unfolding frame_at
frame_none = refl

pub take_past : (xs ys : List ℕ) (n : ℕ) → length xs ≤ n → take n (xs ++ ys) ≡ xs ++ take (n - length xs) ys
take_past xs ys n le =
    let sum : n ≡ length xs + (n - length xs) = omega arith in
    ap (λ (k : ℕ). take k (xs ++ ys)) sum ∙ take-append-add xs ys (n - length xs)

too_short : (bytes : List ℕ) → length bytes < 36 → frame_at bytes ≡ None
unfolding frame_at
too_short bytes lt =
    let short : ltb (length bytes) 36 ≡ true = lt-ltb _ _ lt in
    rw short refl

no_body : (p body : List ℕ) → length p < 2 ^ 32 → length body < length p → frame_at (head p ++ body) ≡ None
unfolding frame_at
no_body p body fits lt =
    let long : ltb (length (head p ++ body)) 36 ≡ false = le-ltb _ _ (omega (arith, length-append (head p) body, head_long p)) in
    let front : take 36 (head p ++ body) ≡ head p = take_at (head p) body 36 (head_long p) in
    let back : drop 36 (head p ++ body) ≡ body = drop_at (head p) body 36 (head_long p) in
    let short : ltb (length body) (length p) ≡ true = lt-ltb _ _ lt in
    rw (long, front, back, size_head p fits, short) refl

pub frame_short : (p : List ℕ) (n : ℕ) → length p < 2 ^ 32 → n < 36 + length p → frame_at (take n (frame p)) ≡ None
frame_short p n fits short =
    elim (cases_lt n 36) [
      | inl lt ↦ too_short (take n (frame p)) (omega (arith, length-take n (frame p)))
      | inr le ↦
          let halves : frame p ≡ head p ++ p = sym (append_assoc (to_be_bytes w32 (length p)) (sha256 p) p) in
          let part : take n (head p ++ p) ≡ head p ++ take (n - length (head p)) p = take_past (head p) p n (omega (arith, head_long p)) in
          let less : length (take (n - length (head p)) p) < length p = omega (arith, length-take (n - length (head p)) p, head_long p) in
          ap (λ (t : List ℕ). frame_at (take n t)) halves ∙ ap frame_at part ∙ no_body p (take (n - length (head p)) p) fits less
    ]

-- ---- as the code has it

pub found_as : (bytes : List ℕ) (r : Option (Bor (List ℕ) × Bor (List ℕ))) → IsBytes bytes → option_map (λ (x : Bor (List ℕ) × Bor (List ℕ)). (x.0.now, x.1.now)) r ≡ frame_at bytes → IfSome r (λ x. (bytes ≡ frame x.0.now ++ x.1.now) × (length x.0.now < 2 ^ 32))
found_as bytes None fits e = tt
found_as bytes (Some x) fits e = frame_found bytes x.0.now x.1.now fits (sym e)

pub none_as : (bytes : List ℕ) (r : Option (Bor (List ℕ) × Bor (List ℕ))) → option_map (λ (x : Bor (List ℕ) × Bor (List ℕ)). (x.0.now, x.1.now)) r ≡ frame_at bytes → IfNone r (frame_at bytes ≡ None)
none_as bytes None e = sym e
none_as bytes (Some x) e = tt
