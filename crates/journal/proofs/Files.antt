-- What is recalled of a file that was written.
use Rattle.std.proofs.Common.{◌≡◌, ◌∙◌, ◌+◌, ◌-◌, ◌^◌, ◌<◌, ◌++◌, arith, ℕ, Bool, List, [], Option}
use Rattle.std.proofs.Common.{Some, None, Ok, refl, sym, ap, subst, inl, inr, append_assoc, length}
use Rattle.std.proofs.Common.{map, take}
use Rattle.std.proofs.lemmas.List.{length-append, length-map, take_at}
use Rattle.std.specs.List.{flat_map}
use Rattle.frames.specs.Frames.{Splits, frame, frame_at}
use Rattle.frames.proofs.ManyFrames.{behind}
use Rattle.journal.proofs.Beginnings.{cut_recalled, damaged_recalled, fit_of, whole_recalled}
use Rattle.journal.proofs.Headers.{cut_front_is, not_part, same_front}
use Rattle.journal.specs.Header.{file_of, header_for}
use Rattle.journal.specs.Kept.{KeptParts, after_all}
use Rattle.journal.specs.Records.{AreBatches, RecordParts, journal_of, payload_of}
use Rattle.journal.specs.Recalls.{Fails, IsAfterBeginning, Recalls, RecallsFile}
use Rattle.journal.specs.declared.damage.Damage.{Damage}

abbrev Batches : Type 0
Batches = List (List RecordParts)

pub cut_file : (start kept : KeptParts) (had rings : Bool) (bytes : List ℕ) (m used : ℕ)
    (d : Option Damage) (bs : Batches) (n : ℕ) → AreBatches bs → bytes ≡ take n (file_of rings bs)
    → RecallsFile start bytes had m used d kept → IsAfterBeginning bs start kept
cut_file start kept had rings bytes m used d bs n all are (inl r) =
    let size = length (frame (header_for rings)) in
    let front = cut_front_is had rings bytes r.more (journal_of bs) n r.are are in
    cut_recalled start kept r.more m r.behind d bs (n - size) all front.1 r.recalls
cut_file start kept had rings bytes m used d bs n all are (inr r) = record {
  front = [];
  back = bs;
  are = refl;
  after = ap (λ (k : KeptParts). Ok k) (sym r.start_kept);
}

-- what a file begins with
front_of : (rings : Bool) (bytes more : List ℕ) (bs : Batches) → bytes ≡ file_of rings bs ++ more
    → bytes ≡ frame (header_for rings) ++ (journal_of bs ++ more)
front_of rings bytes more bs are =
    are ∙ append_assoc (frame (header_for rings)) (journal_of bs) more

-- how many bytes these batches have
used_of : (start kept : KeptParts) (bytes more : List ℕ) (m used : ℕ) (d : Option Damage)
    (bs : Batches) → AreBatches bs → bytes ≡ journal_of bs ++ more
    → Recalls start bytes m used d kept → m ≡ length bs → used ≡ length (journal_of bs)
used_of start kept bytes more m used d bs all are r is =
    let texts = map payload_of bs in
    let split = subst (λ (b : List ℕ). Splits b r.payloads r.rest) are r.splits in
    let b = behind texts more r.payloads r.rest (fit_of bs all) split in
    let order : r.recalled.front ++ r.recalled.later ≡ texts ++ b.0 = sym r.recalled.are ∙ b.1 in
    let same : r.recalled.front ≡ texts =
    sym (take_at r.recalled.front r.recalled.later m r.recalled.count)
    ∙ ap (take m) order ∙ take_at texts b.0 m (length-map bs payload_of ∙ sym is) in
    r.size ∙ ap (λ (ps : List (List ℕ)). length (flat_map frame ps)) same

used_all : (had rings : Bool) (bs : Batches) (used size : ℕ) → had ≡ rings
    → used ≡ length (frame (header_for had)) + size → size ≡ length (journal_of bs)
    → used ≡ length (file_of rings bs)
used_all had rings bs used size one is same =
    let of : used ≡ length (frame (header_for rings)) + size =
    is ∙ ap (λ (b : Bool). length (frame (header_for b)) + size) one in
    omega (arith, of, same, length-append (frame (header_for rings)) (journal_of bs))

pub whole_file : (start kept wanted : KeptParts) (had rings : Bool) (bytes torn : List ℕ)
    (m used : ℕ) (d : Option Damage) (bs : Batches) → AreBatches bs → frame_at torn ≡ None
    → bytes ≡ file_of rings bs ++ torn → after_all bs start ≡ Ok wanted
    → RecallsFile start bytes had m used d kept
    → (kept ≡ wanted) × (had ≡ rings) × (d ≡ None) × (m ≡ length bs)
    × (used ≡ length (file_of rings bs))
whole_file start kept wanted had rings bytes torn m used d bs all none are done (inl r) =
    let front = same_front had rings bytes r.more (journal_of bs ++ torn) r.are
    (front_of rings bytes torn bs are) in
    let w = whole_recalled start kept wanted r.more torn m r.behind d bs all none front.1 done r.recalls
    in
    let size = used_of start kept r.more torn m r.behind d bs all front.1 r.recalls w.2 in
    (w.0, front.0, w.1, w.2, used_all had rings bs used r.behind front.0 r.size size)
whole_file start kept wanted had rings bytes torn m used d bs all none are done (inr r) =
    absurd (not_part rings bytes (journal_of bs ++ torn) (front_of rings bytes torn bs are) r.part)

pub damaged_file : (start kept wanted : KeptParts) (had rings : Bool) (bytes bad more : List ℕ)
    (m used : ℕ) (d : Option Damage) (bs : Batches) (why : Damage) → AreBatches bs
    → length bad < 2 ^ 32 → bytes ≡ file_of rings bs ++ (frame bad ++ more)
    → after_all bs start ≡ Ok wanted → Fails bad wanted why
    → RecallsFile start bytes had m used d kept
    → (kept ≡ wanted) × (had ≡ rings) × (d ≡ Some why) × (m ≡ length bs)
    × (used ≡ length (file_of rings bs))
damaged_file start kept wanted had rings bytes bad more m used d bs why all fits are done fails
    (inl r) =
    let text = frame bad ++ more in
    let front = same_front had rings bytes r.more (journal_of bs ++ text) r.are
    (front_of rings bytes text bs are) in
    let w = damaged_recalled start kept wanted r.more bad more m r.behind d bs why all fits front.1
    done fails r.recalls in
    let size = used_of start kept r.more text m r.behind d bs all front.1 r.recalls w.2 in
    (w.0, front.0, w.1, w.2, used_all had rings bs used r.behind front.0 r.size size)
damaged_file start kept wanted had rings bytes bad more m used d bs why all fits are done fails
    (inr r) =
    let text = frame bad ++ more in
    absurd (not_part rings bytes (journal_of bs ++ text) (front_of rings bytes text bs are) r.part)
