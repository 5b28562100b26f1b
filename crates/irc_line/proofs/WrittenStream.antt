-- Lines that are written one after the other are a stream of these lines.
use Rattle.irc_line.proofs.{Again.IsClean, Making.{writable-again, writable-spells}}
use Rattle.irc_line.{proofs.Streams.made-of, specs.{Line.{Parts, is_line_byte}, Lines.HasNoLf}}
use Rattle.irc_line.specs.{Lines.{lines_of, with_lf, without_cr}, Reading.line_of}
use Rattle.{irc_line.specs.Writing.{is_writable, text_of, written}, std.proofs.Common.{List, []}}
use Rattle.std.proofs.Common.{append-nil, append_assoc, arith, false, length, length-append, map}
use Rattle.std.proofs.{Common.{refl, ℕ, ◌++◌, ◌∷◌, ◌≡◌}, Math.Seq.get_or-append_seam}
use Rattle.std.proofs.{Math.Seq.take-append_seam, lemmas.Bool.Decides.nat_tests}
use Rattle.std.specs.{List.{AllByRecursion, filter_map, flat_map}, Prelude.{IsTrue, ◌-◌, ◌==◌}}

-- the segment that a line is
abbrev segment_of : Parts → List ℕ
segment_of line = text_of line ++ 13 ∷ []

clean-no_lf : (text : List ℕ) → IsClean text → HasNoLf (text ++ 13 ∷ [])
clean-no_lf [] c = (refl, tt)
clean-no_lf (b ∷ bs) c = (no_lf b c.0, clean-no_lf bs c.1) where
  no_lf : (b : ℕ) → IsTrue (is_line_byte b) → (b == 10) ≡ false
  no_lf b h = grind (arith, nat_tests)

all_written : (lines : List Parts) →
    flat_map written lines ≡ flat_map with_lf (map segment_of lines)
all_written [] = refl
all_written (l ∷ ls) = grind (arith, append_assoc, all_written ls)

-- the CR at the end goes
cr_gone : (text : List ℕ) → without_cr (text ++ 13 ∷ []) ≡ text
cr_gone text =
    let last : length (text ++ 13 ∷ []) - 1 ≡ length text = omega (arith, length-append text) in
    rw (last, get_or-append_seam text 13 [] 0) (take-append_seam text (13 ∷ []))

each_clean : (lines : List Parts) → AllByRecursion (λ l. IsTrue (is_writable l)) lines →
    AllByRecursion HasNoLf (map segment_of lines)
each_clean [] w = tt
each_clean (l ∷ ls) w = (clean-no_lf (text_of l) (writable-spells l w.0).clean, each_clean ls w.1)

each_read : (lines : List Parts) → AllByRecursion (λ l. IsTrue (is_writable l)) lines →
    filter_map (λ segment. line_of (without_cr segment)) (map segment_of lines) ≡ lines
each_read [] w = refl
each_read (l ∷ ls) w =
    rw (cr_gone (text_of l), (writable-again l).0 w.0, each_read ls w.1)

pub written-lines : (lines : List Parts) → AllByRecursion (λ l. IsTrue (is_writable l)) lines →
    lines_of (flat_map written lines) ≡ lines
written-lines lines w =
    let made = made-of (map segment_of lines) [] (each_clean lines w) tt in
    let ended = rw append-nil at made.0 in
    rw (all_written lines, ended) (each_read lines w)
