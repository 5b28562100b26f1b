-- A stream in pieces.
use Rattle.irc_line.proofs.Segments.{IsSplit, segments-append, segments-some}
use Rattle.irc_line.specs.Lines.{all_but_last, counted, ended_of, fed, fed_all, is_skipped}
use Rattle.irc_line.specs.Lines.{lines_all, lines_of, rest_of, skipped_of, start}
use Rattle.{irc_line.specs.{Lines.{the_last, without_cr}, Reading.line_of}, std.proofs.Common.List}
use Rattle.std.proofs.Common.{[], append-nil, append_assoc, arith, cond, refl, ℕ, ◌++◌}
use Rattle.std.proofs.{Common.{◌+◌, ◌∷◌, ◌≡◌}, lemmas.List.Elements.filter_map-append}
use Rattle.std.{proofs.lemmas.List.Sums.sum_by-append, specs.List.concat}

all_but_last-append : (front cuts : List (List ℕ)) → IsSplit cuts →
    all_but_last (front ++ cuts) ≡ front ++ all_but_last cuts
all_but_last-append [] cuts s = refl
all_but_last-append (x ∷ []) cuts s = grind arith
all_but_last-append (x ∷ y ∷ ys) cuts s = rw (all_but_last-append (y ∷ ys) cuts s)

the_last-append : (front cuts : List (List ℕ)) → IsSplit cuts →
    the_last (front ++ cuts) ≡ the_last cuts
the_last-append [] cuts s = refl
the_last-append (x ∷ []) cuts s = grind arith
the_last-append (x ∷ y ∷ ys) cuts s = the_last-append (y ∷ ys) cuts s

-- what two parts of bytes hold
module _ (a b : List ℕ) where
  pub parts-append : ended_of (a ++ b) ≡ ended_of a ++ ended_of (rest_of a ++ b)
  parts-append =
      rw (segments-append a b) (all_but_last-append (ended_of a) _ (segments-some (rest_of a ++ b)))

  pub rest-append : rest_of (a ++ b) ≡ rest_of (rest_of a ++ b)
  rest-append =
      rw (segments-append a b) (the_last-append (ended_of a) _ (segments-some (rest_of a ++ b)))

  pub lines-append : lines_of (a ++ b) ≡ lines_of a ++ lines_of (rest_of a ++ b)
  lines-append = rw (parts-append, filter_map-append (λ part. line_of (without_cr part)) (ended_of a))

  pub skipped-append : skipped_of (a ++ b) ≡ skipped_of a + skipped_of (rest_of a ++ b)
  skipped-append =
      rw (parts-append, sum_by-append (λ part. cond (is_skipped (without_cr part)) 1 0) (ended_of a))

  fed-fed : fed (fed start a) b ≡ fed start (a ++ b)
  fed-fed =
      let count : counted (counted (0 + skipped_of a) + skipped_of (rest_of a ++ b))
      ≡ counted (0 + skipped_of (a ++ b)) = omega (arith, skipped-append) in
      rw (← rest-append, count)

fed_all-from : (a : List ℕ) (pieces : List (List ℕ)) →
    fed_all (fed start a) pieces ≡ fed start (a ++ concat pieces)
fed_all-from a [] = rw append-nil
fed_all-from a (piece ∷ pieces) =
    rw (fed-fed a piece, ← append_assoc a piece (concat pieces)) (fed_all-from (a ++ piece) pieces)

lines_all-from : (a : List ℕ) (pieces : List (List ℕ)) →
    lines_of a ++ lines_all (fed start a) pieces ≡ lines_of (a ++ concat pieces)
lines_all-from a [] = simp append-nil
lines_all-from a (piece ∷ pieces) =
    rw (fed-fed a piece, ← append_assoc a, ← append_assoc (lines_of a), ← lines-append a piece)
    (lines_all-from (a ++ piece) pieces)

pub fed_all-start : (pieces : List (List ℕ)) → fed_all start pieces ≡ fed start (concat pieces)
fed_all-start [] = refl
fed_all-start (piece ∷ pieces) = fed_all-from piece pieces

pub lines_all-start : (pieces : List (List ℕ)) → lines_all start pieces ≡ lines_of (concat pieces)
lines_all-start pieces = lines_all-from [] pieces
