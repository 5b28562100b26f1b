-- What is written is read again.
use Rattle.std.proofs.Common.{◌≡◌, ◌<◌, ◌≤◌, ◌^◌, ◌+◌, ◌-◌, ◌*◌, ◌/◌, ◌%◌, ◌∙◌, ◌++◌, ℕ, Bool, List}
use Rattle.std.proofs.Common.{[], ◌∷◌, Option, Some, None, refl, sym, ap, arith, append-nil}
use Rattle.std.proofs.Common.{append_assoc, decimal, drop, length, map, take, true, Result, Ok, Err}
use Rattle.std.specs.Prelude.{◌==◌, IfOk, IsTrue, codes, if◌then◌else◌, is_none, nat_eq, nat_lt, not}
use Rattle.std.specs.List.{AllByRecursion, prefix_len, starts_with}
use Rattle.std.proofs.Math.Seq.{drop-append-add}
use Rattle.std.proofs.lemmas.Bool.Decides.{nat_tests}
use Rattle.std.proofs.lemmas.Fmt.{decimal_by_steps}
use Rattle.std.proofs.lemmas.List.{length-append, length-drop, take_all, take_at}
use Rattle.std.proofs.lemmas.List.Folds.{prefix_len-append}
use Rattle.std.proofs.lemmas.List.Sums.{prefix_len-le-length}
use Rattle.history.specs.Entry.{EntryParts}
use Rattle.irc_line.proofs.WrittenStream.{written-lines}
use Rattle.irc_line.specs.Line.{Parts}
use Rattle.irc_line.specs.Lines.{lines_of}
use Rattle.irc_line.specs.Writing.{is_writable}
use Rattle.std.specs.Option.{option_map}
use Rattle.journal.specs.Reading.{message_at, message_by, message_in, number_in, number_on, record_of, records_in}
use Rattle.journal.specs.Reading.{records_on, unescaped}
use Rattle.journal.specs.Records.{AreSound, IsBatch, IsRight, IsSound, RecordParts, end_of_tag}
use Rattle.journal.specs.Records.{escaped, escaped_byte, gone, line_for, mark, message, name, next}
use Rattle.journal.specs.Records.{on, payload_of, record_parts, ring_tag, seen}
use Rattle.journal.specs.declared.record.Record.{Record}

-- ---- numbers

-- what a number's text is read as, if it has 64 bits
abbrev ReadsAs : ℕ → List ℕ → Type 0
ReadsAs n ds = n < 2 ^ 64 → number_on 0 ds ≡ Some n

digit_more : (m d : ℕ) → d < 10 → m * 10 + d < 2 ^ 64
    → number_on m ((48 + d) ∷ []) ≡ Some (m * 10 + d)
digit_more m d low small =
    let value : 48 + d - 48 ≡ d = omega arith in
    grind (arith, nat_tests, value)

reads_on : (m : ℕ) (ds more : List ℕ) (k : ℕ) → number_on m ds ≡ Some k
    → number_on m (ds ++ more) ≡ number_on k more
reads_on m [] more k e = cc
reads_on m (c ∷ cs) more k e = grind (arith, reads_on (m * 10 + (c - 48)) cs more k)

reads_one : (n : ℕ) → n < 10 → ReadsAs n ((48 + n) ∷ [])
reads_one n low small =
    let whole : 0 * 10 + n ≡ n = omega arith in
    digit_more 0 n low (omega arith) ∙ ap (λ (m : ℕ). Some m) whole

reads_more : (n : ℕ) (ds : List ℕ) → 10 ≤ n → ReadsAs (n / 10) ds
    → ReadsAs n (ds ++ ((48 + n % 10) ∷ []))
reads_more n ds high before small =
    let whole : n / 10 * 10 + n % 10 ≡ n = omega arith in
    reads_on 0 ds ((48 + n % 10) ∷ []) (n / 10) (before (omega arith))
    ∙ digit_more (n / 10) (n % 10) (omega arith) (omega arith) ∙ ap (λ (m : ℕ). Some m) whole

number_again : (n : ℕ) → n < 2 ^ 64 → number_in (decimal n) ≡ Some n
number_again n small = decimal_by_steps ReadsAs reads_one reads_more n small small

-- ---- names and times in tags

unescaped_one : (b : ℕ) (bs : List ℕ) → unescaped (escaped_byte b ++ bs) ≡ b ∷ unescaped bs
unescaped_one b bs = grind (arith, nat_tests)

pub unescaped_again : (x : List ℕ) → unescaped (escaped x) ≡ x
unescaped_again [] = refl
unescaped_again (b ∷ bs) =
    unescaped_one b (escaped bs) ∙ ap (λ (l : List ℕ). b ∷ l) (unescaped_again bs)

none_is : (o : Option ℕ) → IsTrue (is_none o) → o ≡ None
none_is None h = refl
none_is (Some n) h = absurd cc

-- a text that is one tag ends with the list, or before the next tag
abbrev other_byte : ℕ → Bool
other_byte b = not (b == 59)

all_other : (time : List ℕ) → end_of_tag time ≡ None → prefix_len other_byte time ≡ length time
all_other time none = grind (arith, nat_tests, none, prefix_len-le-length other_byte time)

ends_before : (time more : List ℕ) → end_of_tag time ≡ None
    → end_of_tag (time ++ 59 ∷ more) ≡ Some (length time)
ends_before time more none =
    let whole = all_other time none in
    let first : prefix_len other_byte (time ++ 59 ∷ more) ≡ length time =
    grind (arith, nat_tests, whole, prefix_len-append other_byte time (59 ∷ more)) in
    let within : nat_lt (length time) (length (time ++ 59 ∷ more)) ≡ true =
    grind (arith, nat_tests, length-append time (59 ∷ more)) in
    rw (first, within) refl

-- ---- records

-- what comes after `time=`
abbrev after_name : List ℕ → Parts → Option RecordParts
after_name text line = message_by (end_of_tag text) text line

message_again : (e : EntryParts) → IsRight (message e) → (line : Parts)
    → line.source ≡ Some e.source → line.command ≡ e.command → line.params ≡ e.target ∷ e.text ∷ []
    → message_at e.time e.ring line ≡ Some (message e)
message_again e right line source command params =
    grind (arith, source, command, params, right.0.time, right.1)

read_with : (e : EntryParts) (ring : Option (List ℕ)) → e.ring ≡ ring → IsRight (message e)
    → after_name (e.time ++ ring_tag e.ring) (line_for (message e)) ≡ Some (message e)
read_with e None is right =
    let line = line_for (message e) in
    let text : e.time ++ ring_tag e.ring ≡ e.time =
    ap (λ (r : Option (List ℕ)). e.time ++ ring_tag r) is ∙ append-nil e.time in
    ap (λ (t : List ℕ). after_name t line) text
    ∙ ap (λ (end : Option ℕ). message_by end e.time line) (none_is (end_of_tag e.time) right.2)
    ∙ ap (λ (r : Option (List ℕ)). message_at e.time r line) (sym is)
    ∙ message_again e right line refl refl refl
read_with e (Some x) is right =
    let line = line_for (message e) in
    let value = escaped x in
    let size = length e.time in
    let text = e.time ++ 59 ∷ (codes "ring=" ++ value) in
    let end = ends_before e.time (codes "ring=" ++ value) (none_is (end_of_tag e.time) right.2) in
    let front : take size text ≡ e.time =
    take_at e.time (59 ∷ (codes "ring=" ++ value)) size refl in
    let back : drop (size + 1) text ≡ codes "ring=" ++ value =
    drop-append-add e.time (59 ∷ (codes "ring=" ++ value)) 1 in
    ap (λ (r : Option (List ℕ)). after_name (e.time ++ ring_tag r) line) is
    ∙ ap (λ (place : Option ℕ). message_by place text line) end
    ∙ ap (λ (l : List ℕ). if starts_with nat_eq l (codes "ring=")
    then message_at (take size text) (Some (unescaped (drop 5 l))) line else None) back
    ∙ ap (λ (time : List ℕ). message_at time (Some (unescaped value)) line) front
    ∙ ap (λ (y : List ℕ). message_at e.time (Some y) line) (unescaped_again x)
    ∙ ap (λ (r : Option (List ℕ)). message_at e.time r line) (sym is)
    ∙ message_again e right line refl refl refl

record_again : (r : RecordParts) → IsSound r → record_of (line_for r) ≡ Some r
record_again (next n) s = rw (number_again n s.right) refl
record_again (message e) s = read_with e e.ring refl s.right
record_again (name x) s = refl
record_again (mark x n) s = rw (number_again n s.right) refl
record_again (seen x n) s = rw (number_again n s.right) refl
record_again (gone x) s = refl
record_again (on channel None) s = refl
record_again (on channel (Some key)) s = refl

-- for the code: what comes after the first bytes, and a line whose tags begin with `time=`
pub whole_rest : (n : ℕ) (text : List ℕ) → take (length text - n) (drop n text) ≡ drop n text
whole_rest n text = take_all (length text - n) (drop n text) (omega (arith, length-drop n text))

pub message_is_read : {E : Type 0} (r : Result (Option Record) E) (tags after : List ℕ) (line : Parts)
    (place : Option ℕ) → starts_with nat_eq tags (codes "time=") ≡ true → after ≡ drop 5 tags
    → place ≡ end_of_tag after
    → IfOk r (λ x. option_map record_parts x ≡ message_by place after line)
    → IfOk r (λ x. option_map record_parts x ≡ message_in tags line)
message_is_read (Ok x) tags after line place begins is ends e =
    let here : message_by (end_of_tag after) after line ≡ message_in tags line =
    rw (is, begins) refl in
    e ∙ ap (λ (o : Option ℕ). message_by o after line) ends ∙ here
message_is_read (Err x) tags after line place begins is ends e = tt

records_again : (done rs : List RecordParts) → AreSound rs
    → records_on done (map line_for rs) ≡ Some (done ++ rs)
records_again done [] s = ap (λ (rs : List RecordParts). Some rs) (sym (append-nil done))
records_again done (r ∷ rs) s =
    rw (record_again r s.0, records_again (done ++ r ∷ []) rs s.1)
    (ap (λ (rs : List RecordParts). Some rs) (append_assoc done (r ∷ []) rs))

all_writable : (rs : List RecordParts) → AreSound rs
    → AllByRecursion (λ l. IsTrue (is_writable l)) (map line_for rs)
all_writable [] s = tt
all_writable (r ∷ rs) s = (s.0.line, all_writable rs s.1)

-- ---- batches

pub batch_again : (payload : List ℕ) (rs : List RecordParts) → IsBatch payload rs
    → records_in (lines_of payload) ≡ Some rs
batch_again payload rs b =
    rw (b.1, written-lines (map line_for rs) (all_writable rs b.0)) (records_again [] rs b.0)

-- a text is that of one batch at most
pub one_batch : (payload : List ℕ) (rs qs : List RecordParts) → IsBatch payload rs
    → IsBatch payload qs → rs ≡ qs
one_batch payload rs qs b c =
    let same = sym (batch_again payload rs b) ∙ batch_again payload qs c in
    cc same

-- what is read is written otherwise
pub other_text : (payload text : List ℕ) (rs qs : List RecordParts)
    → records_in (lines_of payload) ≡ Some qs → IsBatch text qs → (text ≡ payload → ⊥)
    → IsBatch payload rs → ⊥
other_text payload text rs qs read written other b =
    let same : qs ≡ rs = (let e = sym read ∙ batch_again payload rs b in cc e) in
    other (written.1 ∙ ap payload_of same ∙ sym b.1)
