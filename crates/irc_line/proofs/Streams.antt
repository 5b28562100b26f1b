-- A stream and its segments are one thing.
use Rattle.irc_line.proofs.Segments.{ended-cons, last-cons, segments-behind, segments-some}
use Rattle.irc_line.specs.Lines.{HasNoLf, ended_of, rest_of, segments_of, with_lf}
use Rattle.std.proofs.Common.{List, [], append-nil, append_assoc, arith, refl, ℕ, ◌++◌, ◌∷◌, ◌≡◌}
use Rattle.std.{proofs.lemmas.Bool.Decides.nat_tests, specs.List.{AllByRecursion, flat_map}}

-- what was cut is put together again
pub put-together : (bytes : List ℕ) → flat_map with_lf (ended_of bytes) ++ rest_of bytes ≡ bytes
put-together [] = refl
put-together (b ∷ bs) =
    let s = segments-some bs in grind (arith, nat_tests, append_assoc, put-together bs)

pub none-has-lf : (bytes : List ℕ) → AllByRecursion HasNoLf (segments_of bytes)
none-has-lf [] = (tt, tt)
none-has-lf (b ∷ bs) = let s = segments-some bs in grind (arith, none-has-lf bs)

-- a segment and its LF come first
one-more : (segment bytes : List ℕ) → HasNoLf segment →
    segments_of (with_lf segment ++ bytes) ≡ segment ∷ segments_of bytes
one-more segment bytes clean =
    let cut = segments-behind segment (10 ∷ bytes) [] (segments_of bytes) clean refl in
    grind (arith, append_assoc, append-nil)

pub made-of : (ended : List (List ℕ)) (rest : List ℕ) → AllByRecursion HasNoLf ended →
    HasNoLf rest → (ended_of (flat_map with_lf ended ++ rest) ≡ ended)
    × (rest_of (flat_map with_lf ended ++ rest) ≡ rest)
made-of [] rest clean last =
    let one : segments_of rest ≡ rest ∷ [] =
    rw append-nil at (segments-behind rest [] [] [] last refl) in
    rw one (refl, refl)
made-of (segment ∷ ended) rest clean last =
    let bytes = flat_map with_lf ended ++ rest in
    let more = made-of ended rest clean.1 last in
    let first = one-more segment bytes clean.0 in
    let some = segments-some bytes in
    grind (arith, append_assoc, ended-cons, last-cons)
