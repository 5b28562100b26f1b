-- The lines of a stream of bytes (RFC 2812, section 2.3: CR LF ends a line; that LF alone ends one
-- too is our own choice).
use Rattle.std.specs.Prelude.{◌≡◌, ℕ, ◌+◌, ◌-◌, ◌^◌, Bool, false, ◌&&◌, not, ◌==◌, nat_lt, List, []}
use Rattle.std.specs.Prelude.{◌∷◌, ◌++◌, length, if◌then◌else◌, count_by, slice_index, take, min}
use Rattle.std.specs.List.{AllByRecursion, list_any, filter_map, slice_split}
use Rattle.irc_line.specs.Line.{Parts}
use Rattle.irc_line.specs.Reading.{is_line, line_of, trimmed}

-- the texts between the LFs, in order; the last one is after the last LF
abbrev pub segments_of : List ℕ → List (List ℕ)
segments_of bytes = slice_split (λ b. b == 10) bytes

abbrev pub all_but_last : List (List ℕ) → List (List ℕ)
all_but_last [] = []
all_but_last (x ∷ []) = []
all_but_last (x ∷ y ∷ xs) = x ∷ all_but_last (y ∷ xs)

abbrev pub the_last : List (List ℕ) → List ℕ
the_last [] = []
the_last (x ∷ []) = x
the_last (x ∷ y ∷ xs) = the_last (y ∷ xs)

-- no LF among the bytes
abbrev pub HasNoLf : List ℕ → Type 0
HasNoLf bytes = AllByRecursion (λ b. (b == 10) ≡ false) bytes

abbrev pub with_lf : List ℕ → List ℕ
with_lf segment = segment ++ 10 ∷ []

-- the segments that an LF ends
abbrev pub ended_of : List ℕ → List (List ℕ)
ended_of bytes = all_but_last (segments_of bytes)

-- the text after the last LF: the beginning of a line, perhaps
abbrev pub rest_of : List ℕ → List ℕ
rest_of bytes = the_last (segments_of bytes)

-- a segment without one CR at its end
abbrev pub without_cr : List ℕ → List ℕ
without_cr segment =
    if slice_index segment (length segment - 1) == 13
    then take (length segment - 1) segment
    else segment

-- the lines that the bytes hold, in order
abbrev pub lines_of : List ℕ → List Parts
lines_of bytes = filter_map (λ segment. line_of (without_cr segment)) (ended_of bytes)

abbrev pub is_blank : List ℕ → Bool
is_blank text = length (trimmed text) == 0

-- outside the grammar, and not blank
abbrev pub is_skipped : List ℕ → Bool
is_skipped text = not (is_line text) && not (is_blank text)

-- how many ended segments are skipped
abbrev pub skipped_of : List ℕ → ℕ
skipped_of bytes = count_by (λ segment. is_skipped (without_cr segment)) (ended_of bytes)

-- how many bytes may come without LF (RFC 2812, section 2.3, has 512 with CR LF; this limit is our
-- own)
abbrev pub line_limit : ℕ
line_limit = 16384

-- whether more bytes than that come without LF anywhere
abbrev pub is_too_long : List ℕ → Bool
is_too_long bytes = list_any (λ segment. nat_lt line_limit (length segment)) (segments_of bytes)

-- what a splitter holds: the bytes after the last LF, and how many segments it has skipped
pub record Pending : Type 0 where
  pub rest : List ℕ
  pub skipped : ℕ

abbrev pub start : Pending
start = record { rest = []; skipped = 0 }

-- a count stays at its greatest value once it is reached
abbrev pub counted : ℕ → ℕ
counted n = min n (2 ^ 64 - 1)

-- what a splitter holds after one more piece
abbrev pub fed : Pending → List ℕ → Pending
fed s piece =
    record {
      rest = rest_of (s.rest ++ piece);
      skipped = counted (s.skipped + skipped_of (s.rest ++ piece));
    }

-- the same after pieces one after the other, and the lines that they gave
abbrev pub fed_all : Pending → List (List ℕ) → Pending
fed_all s [] = s
fed_all s (piece ∷ pieces) = fed_all (fed s piece) pieces

abbrev pub lines_all : Pending → List (List ℕ) → List Parts
lines_all s [] = []
lines_all s (piece ∷ pieces) = lines_of (s.rest ++ piece) ++ lines_all (fed s piece) pieces
