-- What a rest without LF and a piece after it hold, from the first LF of the piece on.
use Rattle.irc_line.proofs.Segments.{lines-at, lines-none, rest-at, rest-none, segments-behind}
use Rattle.irc_line.proofs.Segments.{skipped-at, skipped-none}
use Rattle.irc_line.specs.{Line.Parts, Lines.{HasNoLf, is_skipped, lines_of, rest_of, segments_of}}
use Rattle.irc_line.specs.{Lines.{skipped_of, without_cr}, Reading.line_of}
use Rattle.std.proofs.Common.{Bool, List, [], append-nil, append_assoc, cond, drop, length, ℕ, ◌++◌, ◌+◌, ◌≤◌, arith, sym}
use Rattle.std.{proofs.{Common.{◌∷◌, ◌≡◌}, lemmas.List.drop_at}, specs.Prelude.option_to_list}

module _ (rest piece head after : List ℕ) (clean : HasNoLf rest)
    (cut : segments_of piece ≡ head ∷ segments_of after) where
  joined : segments_of (rest ++ piece) ≡ (rest ++ head) ∷ segments_of after
  joined = segments-behind rest piece head (segments_of after) clean cut

  pub lines-on : (old first all : List Parts) →
      first ≡ old ++ option_to_list (line_of (without_cr (rest ++ head))) →
      all ≡ first ++ lines_of after → all ≡ old ++ lines_of (rest ++ piece)
  lines-on old first all f a = rw (lines-at _ _ after joined, ← append_assoc old, ← f) a

  pub rest-on : (held tail all left : List ℕ) (done : ℕ) → done ≡ length held → tail
      ≡ rest_of after → all ≡ held ++ tail → left ≡ drop done all → left ≡ rest_of (rest ++ piece)
  rest-on held tail all left done d t a l =
      rw (rest-at _ _ after joined, ← t, l, a) (drop_at held tail done (sym d))

  pub skipped-on : (skips : Bool) (all : ℕ) → skips ≡ is_skipped (without_cr (rest ++ head)) →
      all ≡ cond skips 1 0 + skipped_of after → all ≡ skipped_of (rest ++ piece)
  skipped-on skips all s a = rw (skipped-at _ _ after joined, ← s) a

module _ (rest piece : List ℕ) (clean : HasNoLf rest) (one : segments_of piece ≡ piece ∷ []) where
  whole : segments_of (rest ++ piece) ≡ (rest ++ piece) ∷ []
  whole = segments-behind rest piece piece [] clean one

  pub lines-off : (old : List Parts) → old ≡ old ++ lines_of (rest ++ piece)
  lines-off old = rw (lines-none (rest ++ piece) whole, append-nil old)

  pub rest-off : rest ++ piece ≡ rest_of (rest ++ piece)
  rest-off = sym (rest-none (rest ++ piece) whole)

  pub skipped-off : 0 ≡ skipped_of (rest ++ piece)
  skipped-off = sym (skipped-none (rest ++ piece) whole)

-- lines were read up to a place
pub record IsReadTo (old : List Parts) (bytes : List ℕ) (out : List Parts) (rest : List ℕ)
    (skipped : ℕ) : Type 0 where
  pub done : List Parts
  pub added : out ≡ old ++ done
  pub read : done ++ lines_of rest ≡ lines_of bytes
  pub left : rest_of rest ≡ rest_of bytes
  pub skips : skipped + skipped_of rest ≡ skipped_of bytes
  pub short : skipped + length rest ≤ length bytes

-- a segment more
pub read_more : (old out new : List Parts) (bytes rest segment after : List ℕ) (skipped now : ℕ)
    (skips : Bool) → IsReadTo old bytes out rest skipped → segments_of rest
    ≡ segment ∷ segments_of after → length segment + 1 + length after ≡ length rest → new
    ≡ out ++ option_to_list (line_of (without_cr segment)) → skips ≡ is_skipped (without_cr segment)
    → now ≡ skipped + cond skips 1 0 → IsReadTo old bytes new after now
read_more old out new bytes rest segment after skipped now skips r cut shorter added skips_is now_is =
    let more = option_to_list (line_of (without_cr segment)) in
    let count : skipped_of rest ≡ cond skips 1 0 + skipped_of after =
    rw skips_is (skipped-at rest segment after cut) in
    let one : cond skips 1 0 ≤ 1 = grind arith in
    record {
      done = r.done ++ more;
      added = rw (← append_assoc old, ← r.added) added;
      read = rw (append_assoc r.done, ← lines-at rest segment after cut) r.read;
      left = rw (← rest-at rest segment after cut) r.left;
      skips = omega (arith, r.skips);
      short = omega (arith, r.short);
    }
