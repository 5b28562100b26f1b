-- Bytes that were written are a packet of their lines, and these are cut off it one by one.
use Rattle.std.proofs.Common.{◌++◌, ◌+◌, ◌<◌, ◌∙◌, ◌∷◌, ◌≡◌, ◌≤◌, List, Option, Some, [], ap}
use Rattle.std.proofs.Common.{append-nil, append_assoc, arith, drop, false, filter, get_or, length}
use Rattle.std.proofs.Common.{length-append, refl, slice_get, suc, sym, take, true, zero, ℕ}
use Rattle.std.specs.Prelude.{◌==◌, IsTrue}
use Rattle.std.specs.List.{AllByRecursion, before_first, flat_map}
use Rattle.std.proofs.SliceLists.{all_by_recursion_push}
use Rattle.std.proofs.lemmas.Bool.Decides.{nat_tests}
use Rattle.std.proofs.lemmas.List.{Elements.filter-append, take_all, take_more}
use Rattle.std.proofs.lemmas.Grind.{flat_map-append}
use Rattle.irc_line.proofs.{Making.{writable-again, writable-spells}, WrittenStream.written-lines}
use Rattle.irc_line.specs.Line.{Parts, is_line_byte}
use Rattle.irc_line.specs.Lines.{lines_of}
use Rattle.irc_line.specs.Reading.{line_of}
use Rattle.irc_line.specs.Writing.{is_writable, text_of, written}
use Rattle.irc_support.specs.Text.{cut_at}
use Rattle.hub_ends.specs.Packets.{AreLines, IsPacket}

-- what holds of each of two lists holds of each of both
all_joined : {X : Type 0} (P : X → Type 0) (xs ys : List X) → AllByRecursion P xs
    → AllByRecursion P ys → AllByRecursion P (xs ++ ys)
all_joined P [] ys one other = other
all_joined P (x ∷ xs) ys one other = (one.0, all_joined P xs ys one.1 other)

pub lines_back : (bytes : List ℕ) (lines : List Parts) → bytes ≡ flat_map written lines
    → AreLines lines → lines_of bytes ≡ lines
lines_back bytes lines e w = ap lines_of e ∙ written-lines lines w

pub is_packet : (bytes : List ℕ) (lines : List Parts) → bytes ≡ flat_map written lines
    → AreLines lines → IsPacket bytes (length lines)
is_packet bytes lines e w =
    let is = lines_back bytes lines e w in
    record { whole = ap (flat_map written) is ∙ sym e; lines = rw is w; counted = ap length is }

-- the bytes of the first lines
pub record IsWrittenUpTo (text : List ℕ) (all : List Parts) (i : ℕ) : Type 0 where
  pub whole : text ≡ flat_map written (take i all)
  pub lines : AreLines (take i all)

-- one more line was written
pub one_more : (text more : List ℕ) (all : List Parts) (i : ℕ) (line : Parts) → i < length all
    → line ≡ get_or all i line → IsWrittenUpTo text all i → IsTrue (is_writable line)
    → more ≡ text ++ written line → IsWrittenUpTo more all (i + 1)
one_more text more all i line less is before can e =
    let on = rw (← is) at (take_more all i line less) in
    record {
      whole = rw (e, before.whole, on, flat_map-append, append-nil (written line)) refl;
      lines = rw on (all_by_recursion_push (λ x. IsTrue (is_writable x)) (take i all) line before.lines can);
    }

-- a packet of lines that were written one by one
pub ruleset packet_steps = (lines_back, is_packet, take_all)

-- ---- one packet after another

no_fewer_bytes : (lines : List Parts) → length lines ≤ length (flat_map written lines)
no_fewer_bytes [] = omega arith
no_fewer_bytes (l ∷ lines) =
    let here = length-append (text_of l) (13 ∷ 10 ∷ []) in
    omega (arith, no_fewer_bytes lines, here, length-append (written l) (flat_map written lines))

-- a packet has no more lines than bytes
pub few_lines : (bytes : List ℕ) (count : ℕ) → IsPacket bytes count → count ≤ length bytes
few_lines bytes count p =
    omega (arith, no_fewer_bytes (lines_of bytes), ap length p.whole, p.counted)

-- the bytes of two packets are those of one with the lines of both
pub record AreJoined (front back bytes : List ℕ) (count : ℕ) : Type 0 where
  pub packet : IsPacket bytes count
  pub lines : lines_of bytes ≡ lines_of front ++ lines_of back

pub packets_joined : (front back bytes : List ℕ) (m n : ℕ) → IsPacket front m → IsPacket back n
    → bytes ≡ front ++ back → AreJoined front back bytes (m + n)
packets_joined front back bytes m n p q e =
    let all = lines_of front ++ lines_of back in
    let whole : bytes ≡ flat_map written all = simp flat_map-append (cc (e, p.whole, q.whole)) in
    let lines = all_joined (λ line. IsTrue (is_writable line)) _ _ p.lines q.lines in
    let count = length-append (lines_of front) (lines_of back) ∙ (λ k. p.counted k + q.counted k) in
    record {
      packet = rw count at (is_packet bytes all whole lines);
      lines = lines_back bytes all whole lines;
    }

-- ---- written lines, cut off one by one

cut_behind : (byte : ℕ) (text more : List ℕ) → AllByRecursion (λ b. (b == byte) ≡ false) text
    → (byte == byte) ≡ true → cut_at byte (text ++ byte ∷ more) ≡ (text, Some more)
cut_behind byte [] more l e = grind (arith, nat_tests, e)
cut_behind byte (b ∷ text) more l e = grind (arith, nat_tests, l.0, cut_behind byte text more l.1 e)

-- the text of a line has no CR and no LF
no_ends : (text : List ℕ) → AllByRecursion (λ b. IsTrue (is_line_byte b)) text
    → AllByRecursion (λ b. (b == 13) ≡ false) text × AllByRecursion (λ b. (b == 10) ≡ false)
    (text ++ 13 ∷ []) × (filter (λ b. b == 10) text ≡ [])
no_ends [] c = (tt, (refl, tt), refl)
no_ends (b ∷ text) c = grind (arith, nat_tests, c.0, no_ends text c.1)

-- the first of written lines, and the others
pub first_text : (line : Parts) (lines : List Parts) → IsTrue (is_writable line)
    → before_first (λ b. b == 13) (flat_map written (line ∷ lines)) ≡ text_of line
first_text line lines w =
    rw (append_assoc (text_of line) (13 ∷ 10 ∷ []) (flat_map written lines)) (ap (λ c. c.0)
    (cut_behind 13 (text_of line) _ (no_ends (text_of line) (writable-spells line w).clean).0 refl))

pub other_texts : (line : Parts) (lines : List Parts) → IsTrue (is_writable line)
    → (cut_at 10 (flat_map written (line ∷ lines))).1 ≡ Some (flat_map written lines)
other_texts line lines w =
    let cr = append_assoc (text_of line) (13 ∷ []) (10 ∷ flat_map written lines) in
    rw (append_assoc (text_of line) (13 ∷ 10 ∷ []) (flat_map written lines), ← cr)
    (ap (λ c. c.1) (cut_behind 10
    (text_of line ++ 13 ∷ []) _ (no_ends (text_of line) (writable-spells line w).clean).1 refl))

-- the line at a place, and those after it
pub at_place : (lines : List Parts) (place : ℕ) → AreLines lines → place < length lines
    → (line : Parts) × (drop place lines ≡ line ∷ drop (place + 1) lines)
    × (slice_get lines place ≡ Some line) × IsTrue (is_writable line)
at_place [] place w h = absurd (omega arith)
at_place (l ∷ lines) zero w h = (l, refl, refl, w.0)
at_place (l ∷ lines) (suc place) w h =
    let on : suc place + 1 ≡ suc (place + 1) = omega arith in
    rw on (at_place lines place w.1 (omega arith))

-- the line that is read off what is left
pub read_at : (lines : List Parts) (place counter : ℕ) (rest text : List ℕ) (got : Option Parts)
    → AreLines lines → place < length lines → counter ≡ place
    → rest ≡ flat_map written (drop counter lines) → text ≡ before_first (λ b. b == 13) rest
    → got ≡ line_of text → (line : Parts) × (got ≡ Some line) × (slice_get lines place ≡ Some line)
read_at lines place counter rest text got w h n r t g =
    let at = at_place lines place w h in
    let read : got
    ≡ Some at.0 = rw (g, t, r, n, at.1, first_text at.0 (drop (place + 1) lines) at.3)
    ((writable-again at.0).0 at.3) in (at.0, read, at.2)

-- ---- lines that were written have one LF each

line_ends : (lines : List Parts) → AreLines lines
    → length (filter (λ b. b == 10) (flat_map written lines)) ≡ length lines
line_ends [] w = refl
line_ends (l ∷ ls) w =
    let text = (no_ends (text_of l) (writable-spells l w.0).clean).2 in
    rw (filter-append (λ b. b == 10) (written l), filter-append (λ b. b == 10) (text_of l), text)
    (ap suc (line_ends ls w.1))

-- a packet has one line for each LF
pub ends_counted : (bytes : List ℕ) (count : ℕ) → IsPacket bytes count
    → length (filter (λ b. b == 10) bytes) ≡ length (lines_of bytes)
ends_counted bytes count p = rw p.whole at (line_ends (lines_of bytes) p.lines)
