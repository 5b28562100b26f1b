-- The segments of a stream, taken one by one from its front.
use Rattle.irc_line.specs.Lines.{HasNoLf, all_but_last, ended_of, is_skipped, lines_of, rest_of}
use Rattle.irc_line.specs.{Lines.{segments_of, skipped_of, the_last, without_cr}, Reading.line_of}
use Rattle.std.proofs.Common.{List, None, Some, [], arith, cond, drop, inl, inr, length, refl, take}
use Rattle.std.proofs.{Common.{ℕ, ◌++◌, ◌+◌, ◌==◌, ◌∷◌, ◌≡◌, ◌≤◌}, lemmas.Bool.Decides.nat_tests}
use Rattle.irc_line.proofs.Logic.{cases_Bool}
use Rattle.std.proofs.lemmas.{List.{Splits.slice_split_first, Sums.sum_by-cons}}
use Rattle.std.specs.{List.{position, position_or_len, slice_split}, Prelude.option_to_list}

-- the parts of a text go on after the first such byte
pub split-at : (byte : ℕ) (bytes : List ℕ) (n : ℕ) → position (λ b. b == byte) bytes ≡ Some n →
    slice_split (λ b. b == byte) bytes
    ≡ take n bytes ∷ slice_split (λ b. b == byte) (drop (n + 1) bytes)
split-at byte bytes n e = grind (arith, nat_tests, slice_split_first (λ b. b == byte) bytes 0)

-- without such a byte there is one part
split-whole : (byte : ℕ) (bytes : List ℕ) → length bytes ≤ position_or_len (λ b. b == byte) bytes →
    slice_split (λ b. b == byte) bytes ≡ bytes ∷ []
split-whole byte [] long = refl
split-whole byte (b ∷ bs) long = grind (arith, split-whole byte bs)

pub split-none : (byte : ℕ) (bytes : List ℕ) → position (λ b. b == byte) bytes ≡ None →
    slice_split (λ b. b == byte) bytes ≡ bytes ∷ []
split-none byte bytes e = split-whole byte bytes (grind (arith, nat_tests))

-- there is always a segment
pub record IsSplit (cuts : List (List ℕ)) : Type 0 where
  pub first : List ℕ
  pub others : List (List ℕ)
  pub whole : cuts ≡ first ∷ others

pub segments-some : (bytes : List ℕ) → IsSplit (segments_of bytes)
segments-some [] = record { first = []; others = []; whole = refl }
segments-some (b ∷ bs) =
    let more = segments-some bs in
    elim (cases_Bool (b == 10)) [
      | inl e ↦ record { first = []; others = segments_of bs; whole = rw e refl }
      | inr e ↦ record { first = b ∷ more.first; others = more.others; whole = grind arith }
    ]

-- the first segment of bytes after bytes without LF begins with these
pub segments-behind : (held bytes first : List ℕ) (others : List (List ℕ)) → HasNoLf held →
    segments_of bytes ≡ first ∷ others → segments_of (held ++ bytes) ≡ (held ++ first) ∷ others
segments-behind [] bytes first others clean e = e
segments-behind (b ∷ held) bytes first others clean e =
    rw (clean.0, segments-behind held bytes first others clean.1 e) refl

-- what was cut off stays cut off, whatever follows
pub segments-append : (a b : List ℕ) →
    segments_of (a ++ b) ≡ ended_of a ++ segments_of (rest_of a ++ b)
segments-append [] b = refl
segments-append (c ∷ cs) b = let s = segments-some cs in grind (arith, segments-append cs b)

-- the text after the last LF has none
pub rest_clean : (bytes : List ℕ) → HasNoLf (rest_of bytes)
rest_clean [] = tt
rest_clean (b ∷ bs) = let s = segments-some bs in grind (arith, rest_clean bs)

-- what the segments before a place give

pub ended-cons : (part : List ℕ) (cuts : List (List ℕ)) → IsSplit cuts →
    all_but_last (part ∷ cuts) ≡ part ∷ all_but_last cuts
ended-cons part cuts s = grind arith

pub last-cons : (part : List ℕ) (cuts : List (List ℕ)) → IsSplit cuts →
    the_last (part ∷ cuts) ≡ the_last cuts
last-cons part cuts s = grind arith

-- An LF: these bytes are a segment, the LF and more.
module _ (bytes part after : List ℕ) (cut : segments_of bytes ≡ part ∷ segments_of after) where
  pub lines-at : lines_of bytes ≡ option_to_list (line_of (without_cr part)) ++ lines_of after
  lines-at = let s = segments-some after in grind (arith, ended-cons)

  pub rest-at : rest_of bytes ≡ rest_of after
  rest-at = let s = segments-some after in grind (arith, last-cons)

  pub skipped-at : skipped_of bytes ≡ cond (is_skipped (without_cr part)) 1 0 + skipped_of after
  skipped-at =
      rw (cut, ended-cons part (segments_of after) (segments-some after))
      (rw (sum_by-cons (λ p. cond (is_skipped (without_cr p)) 1 0)))

-- No LF: these bytes are one segment.
module _ (bytes : List ℕ) (one : segments_of bytes ≡ bytes ∷ []) where
  pub lines-none : lines_of bytes ≡ []
  lines-none = rw one

  pub rest-none : rest_of bytes ≡ bytes
  rest-none = rw one

  pub skipped-none : skipped_of bytes ≡ 0
  skipped-none = rw one
