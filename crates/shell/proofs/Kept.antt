-- Small steps on what a reader holds and what its input has left.
use Rattle.std.proofs.Common.{◌≡◌, ◌≤◌, ◌<◌, ◌+◌, ℕ, List, [], ◌++◌, None, Some, Ok, Err, length}
use Rattle.std.proofs.Common.{take, drop, sym, ap, ◌∙◌, arith}
use Rattle.std.proofs.lemmas.List.{drop-drop, length-append, length-take, length-take-le}
use Rattle.std.proofs.lemmas.List.{take-append-drop, take-take, take_at}
use Rattle.std.specs.declared.option.Option.{Option}
use Rattle.std.specs.declared.result.Result.{Result}
use Rattle.std.specs.Io.KnownBytes.{Consumes, IsAtEnd, Keeps, ReadConsumes, prepend_known}
use Rattle.std.proofs.KnownBytes.{Keeps-trans, prepend_known-read}

-- what is kept over two steps
pub keeps_on : (a b c : Option (List ℕ)) → Keeps a b → Keeps b c → Keeps a c
keeps_on = Keeps-trans

-- what is at the front of a part of what is held is at its own front
pub front_given : (held part left buf bytes : List ℕ) (m n taken : ℕ) → held ≡ drop taken bytes
    → part ≡ take m held → part ≡ take n buf ++ left → n ≤ length buf
    → held ≡ take n buf ++ drop (taken + n) bytes
front_given held part left buf bytes m n taken view is whole fits =
    let few : n ≤ m =
    omega (
      arith,
      ap length whole,
      ap length is,
      length-append (take n buf) left,
      length-take m held,
      length-take-le n buf fits,
    ) in
    let front : take n held ≡ take n buf =
    sym (take-take n m held few) ∙ ap (take n) (sym is ∙ whole)
    ∙ take_at (take n buf) left n (length-take-le n buf fits) in
    sym (take-append-drop n held)
    ∙ ap (λ l. l ++ drop n held) front
    ∙ ap (λ l. take n buf ++ l) (ap (drop n) view ∙ drop-drop n taken bytes)

-- a reader hands on the front of what it holds, and nothing only at its end
pub read_front : (a b : Option (List ℕ)) (held left : List ℕ) (n : ℕ) (buf : List ℕ)
    → Keeps a (prepend_known held b) → held ≡ take n buf ++ left
    → (n ≡ 0 → 0 < length buf → (left ≡ []) × IsAtEnd b)
    → Consumes a (prepend_known left b) (take n buf)
    × (n ≡ 0 → 0 < length buf → IsAtEnd (prepend_known left b))
read_front a b held left n buf kept front end =
    let read = prepend_known-read a b held left (take n buf) ((n ≡ 0) × (0 < length buf)) kept front
    (λ p. end p.0 p.1) in
    (read.0, λ zero some. read.1 (zero, some))

consumes-after : (a b c : Option (List ℕ)) (bs : List ℕ) → Keeps a b → Consumes b c bs
    → Consumes a c bs
consumes-after None b c bs p q = tt
consumes-after (Some x) None c bs p q = absurd p
consumes-after (Some x) (Some y) None bs p q = absurd q
consumes-after (Some x) (Some y) (Some z) bs p q = sym p ∙ q

-- what a read does after bytes were kept, it does to them
pub read_after : {E : Type 0} (a b c : Option (List ℕ)) (r : Result ℕ E) (buf : List ℕ) → Keeps a b
    → ReadConsumes b c r buf → ReadConsumes a c r buf
read_after a b c (Ok n) buf p q = (consumes-after a b c (take n buf) p q.0, q.1)
read_after a b c (Err e) buf p q = Keeps-trans a b c p q
