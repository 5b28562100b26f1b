-- Whether too many bytes come without LF, found from the last LF within reach.
use Rattle.irc_line.{proofs.Segments.{segments-behind, segments-some}, specs.Lines.HasNoLf}
use Rattle.irc_line.specs.Lines.{is_too_long, line_limit, rest_of, segments_of, the_last}
use Rattle.std.proofs.Common.{Bool, List, [], add-one, arith, drop, drop-cons, false, get_or}
use Rattle.std.proofs.Common.{length, length-append, suc, take, true, ℕ, ◌++◌, ◌+◌, ◌-◌, ◌<◌, ◌==◌}
use Rattle.std.proofs.{Common.{◌∷◌, ◌≡◌, ◌≤◌}, lemmas.Bool.{Decides.nat_tests, false_from_ne_true}}
use Rattle.std.proofs.lemmas.List.{get_or-take, length-take-le, take-append-drop}
use Rattle.std.specs.{List.list_any, Prelude.{nat_lt, ◌||◌}}

abbrev pub is_long : List ℕ → Bool
is_long segment = nat_lt line_limit (length segment)

-- whether one of the segments is too long, if `held` bytes come before the first
abbrev pub is_over : ℕ → List (List ℕ) → Bool
is_over held [] = false
is_over held (segment ∷ others) =
    nat_lt line_limit (held + length segment) || list_any is_long others

-- bytes after bytes without LF
pub is_too_long-behind : (held bytes : List ℕ) → HasNoLf held →
    is_too_long (held ++ bytes) ≡ is_over (length held) (segments_of bytes)
is_too_long-behind held bytes clean =
    let s = segments-some bytes in
    rw (segments-behind held bytes s.first s.others clean s.whole, s.whole)
    (rw (length-append held s.first))

-- an LF within reach
over-lf : (held : ℕ) (bytes : List ℕ) → held ≤ line_limit →
    is_over held ([] ∷ segments_of bytes) ≡ is_over 0 (segments_of bytes)
over-lf held bytes h = let s = segments-some bytes in grind (arith, nat_tests)

-- a byte that is no LF
over-byte : (held b : ℕ) (segment : List ℕ) (others : List (List ℕ)) →
    is_over held ((b ∷ segment) ∷ others) ≡ is_over (held + 1) (segment ∷ others)
over-byte held b segment others = grind (arith, nat_tests)

-- few bytes are not too many
pub over-short : (held : ℕ) (bytes : List ℕ) → held + length bytes ≤ line_limit →
    is_over held (segments_of bytes) ≡ false
over-short held [] h = grind (arith, nat_tests)
over-short held (b ∷ bs) h =
    let s = segments-some bs in
    grind (arith, nat_tests, over-lf, over-byte, over-short 0 bs, over-short (held + 1) bs)

-- many bytes without LF are too many
pub over-long : (held : ℕ) (front after : List ℕ) → HasNoLf front →
    line_limit < held + length front → is_over held (segments_of (front ++ after)) ≡ true
over-long held front after clean h =
    let s = segments-some after in
    let cut = segments-behind front after s.first s.others clean s.whole in
    grind (arith, nat_tests, length-append)

-- what comes before an LF within reach is passed over
pub over-passed : (held : ℕ) (front after : List ℕ) → held + length front ≤ line_limit →
    is_over held (segments_of (front ++ 10 ∷ after)) ≡ is_over 0 (segments_of after)
over-passed held [] after h = over-lf held after (omega arith)
over-passed held (b ∷ bs) after h =
    let s = segments-some (bs ++ 10 ∷ after) in
    grind (arith, nat_tests, over-lf, over-byte, over-passed 0 bs after, over-passed (held + 1) bs after)

-- if nothing is too long, the rest is not
last-short : (first : List ℕ) (others : List (List ℕ)) → list_any is_long (first ∷ others) ≡ false →
    length (the_last (first ∷ others)) ≤ line_limit
last-short first [] e = grind (arith, nat_tests)
last-short first (next ∷ others) e = grind (arith, last-short next others)

pub rest_short : (bytes : List ℕ) → is_too_long bytes ≡ false → length (rest_of bytes) ≤ line_limit
rest_short bytes e = let s = segments-some bytes in grind (arith, last-short)

-- bytes without an LF among them, by their places
pub no-lf : (bytes : List ℕ) → ((k : ℕ) → k < length bytes → (get_or bytes k 0 == 10) ≡ false) →
    HasNoLf bytes
no-lf [] h = tt
no-lf (b ∷ bs) h = (h 0 (omega arith), no-lf bs (λ k l. h (suc k) (omega arith)))

-- no LF within reach, and more bytes than that
pub over-none : (room : ℕ) (left : List ℕ) → room ≤ line_limit → room < length left →
    ((k : ℕ) → 0 ≤ k → k < length (take (room + 1) left) →
    ¬ ((get_or (take (room + 1) left) k 0 == 10) ≡ true)) →
    is_over (line_limit - room) (segments_of left) ≡ true
over-none room left reach more none =
    let front = take (room + 1) left in
    let clean : HasNoLf front =
    no-lf front (λ k l. false_from_ne_true (get_or front k 0 == 10) (none k (omega arith) l)) in
    let size : length front ≡ room + 1 = length-take-le (room + 1) left (omega arith) in
    rw (← take-append-drop (room + 1) left)
    (over-long (line_limit - room) front (drop (room + 1) left) clean (omega arith))

-- the last LF within reach
pub over-last : (room last : ℕ) (left : List ℕ) → room ≤ line_limit → last ≤ room →
    room < length left → (get_or (take (room + 1) left) last 0 == 10) ≡ true →
    is_over 0 (segments_of (drop (last + 1) left)) ≡ is_over (line_limit - room) (segments_of left)
over-last room last left reach near more lf =
    let at : get_or left last 0 ≡ 10 = grind (arith, nat_tests, get_or-take) in
    let parts : take last left ++ 10 ∷ drop (last + 1) left ≡ left =
    rw (add-one last, ← at, ← drop-cons left last 0 (omega arith)) (take-append-drop last left) in
    let size = length-take-le last left (omega arith) in
    let passed = over-passed (line_limit - room) (take last left) (drop (last + 1) left) in
    grind arith
