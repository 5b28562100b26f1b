-- What is recalled of a journal that was written: a beginning of its batches.
use Rattle.std.proofs.Common.{◌≡◌, ◌∙◌, ◌^◌, ◌<◌, ◌++◌, ℕ, List, [], ◌∷◌, Option, Some, None}
use Rattle.std.proofs.Common.{Result, Ok, Err, refl, sym, ap, subst, suc, inl, inr, append-nil}
use Rattle.std.proofs.Common.{append_assoc, length, map, take, drop}
use Rattle.std.specs.Prelude.{IfOk}
use Rattle.std.specs.List.{AllByRecursion}
use Rattle.std.proofs.lemmas.List.{take-append-drop, length-map}
use Rattle.frames.specs.Frames.{ArePayloads, Splits, frame, frame_at}
use Rattle.frames.proofs.ManyFrames.{behind, cut, front_frame, torn_end}
use Rattle.journal.proofs.Again.{one_batch}
use Rattle.journal.proofs.InOrder.{no_fault, none_stops, takes_one, takes_same}
use Rattle.journal.specs.Kept.{KeptParts, after_all, after_batch, then_after}
use Rattle.journal.specs.Records.{AreBatches, AreSound, RecordParts, journal_of, payload_of}
use Rattle.journal.specs.Recalls.{EndsBy, Fails, IsAfterBeginning, IsRecalled, Recalls, Takes}
use Rattle.journal.specs.Recalls.{TakesAll}
use Rattle.journal.specs.declared.damage.Damage.{Damage}

abbrev Batches : Type 0
Batches = List (List RecordParts)

abbrev texts : Batches → List (List ℕ)
texts bs = map payload_of bs

abbrev AllSound : Batches → Type 0
AllSound bs = AllByRecursion AreSound bs

sound_of : (bs : Batches) → AreBatches bs → AllSound bs
sound_of [] all = tt
sound_of (b ∷ bs) all = (all.0.0, sound_of bs all.1)

pub fit_of : (bs : Batches) → AreBatches bs → ArePayloads (texts bs)
fit_of [] all = tt
fit_of (b ∷ bs) all = (all.0.1, fit_of bs all.1)

-- ---- batches and their payloads

-- the payload of a batch does what its records do
takes_batch : (b : List RecordParts) (a c : KeptParts) → AreSound b → Takes (payload_of b) a c
    → after_batch b a ≡ Ok c
takes_batch b a c sound t =
    let same : t.0 ≡ b = one_batch (payload_of b) t.0 b t.1 (sound, refl) in
    ap (λ (rs : List RecordParts). after_batch rs a) (sym same) ∙ t.2

done_of : (bs : Batches) (a c : KeptParts) → AllSound bs → TakesAll (texts bs) a c
    → after_all bs a ≡ Ok c
done_of [] a c sound t = ap (λ (k : KeptParts). Ok k) (sym t)
done_of (b ∷ bs) a c sound t =
    rw (takes_batch b a t.0 sound.0 t.1) (done_of bs t.0 c sound.1 t.2)

took_of : (bs : Batches) (a c : KeptParts) → AllSound bs → after_all bs a ≡ Ok c
    → TakesAll (texts bs) a c
took_of [] a c sound e = cc
took_of (b ∷ bs) a c sound e =
    go (after_batch b a) refl e (λ mid later. took_of bs mid c sound.1 later) where
      go : (r : Result KeptParts Damage) → after_batch b a ≡ r → then_after (after_all bs) r ≡ Ok c
          → ((mid : KeptParts) → after_all bs mid ≡ Ok c → TakesAll (texts bs) mid c)
          → TakesAll (texts (b ∷ bs)) a c
      go (Ok mid) is e later = (mid, (b, (sound.0, refl), is), later mid e)
      go (Err d) is e later = absurd cc

-- ---- a beginning

head_is : {A : Type 0} (x y : A) (xs ys : List A) → x ∷ xs ≡ y ∷ ys → x ≡ y
head_is x y xs ys e = cc

tail_is : {A : Type 0} (x y : A) (xs ys : List A) → x ∷ xs ≡ y ∷ ys → xs ≡ ys
tail_is x y xs ys e = cc

no_list : {A : Type 0} (x : A) (xs : List A) → x ∷ xs ≡ [] → ⊥
no_list x xs e = absurd cc

-- payloads at the front of those of batches are those of batches at the front
record Front (bs : Batches) (front : List (List ℕ)) : Type 0 where
  ahead : Batches
  behind : Batches
  are : bs ≡ ahead ++ behind
  texts_are : front ≡ texts ahead

front_of : (bs : Batches) (front later : List (List ℕ)) → front ++ later ≡ texts bs → Front bs front
front_of bs [] later e = record { ahead = []; behind = bs; are = refl; texts_are = refl }
front_of [] (p ∷ ps) later e = absurd (no_list p (ps ++ later) e)
front_of (b ∷ bs) (p ∷ ps) later e =
    let f = front_of bs ps later (tail_is p (payload_of b) (ps ++ later) (texts bs) e) in
    let first = head_is p (payload_of b) (ps ++ later) (texts bs) e in
    record {
      ahead = b ∷ f.ahead;
      behind = f.behind;
      are = ap (λ (cs : Batches). b ∷ cs) f.are;
      texts_are = ap (λ (q : List ℕ). q ∷ ps) first ∙ ap (λ (qs : List (List ℕ)). payload_of b ∷ qs) f.texts_are;
    }

sound_front : (ahead behind : Batches) → AllSound (ahead ++ behind) → AllSound ahead
sound_front [] behind s = tt
sound_front (b ∷ bs) behind s = (s.0, sound_front bs behind s.1)

-- what is recalled of payloads at the front
beginning_of : (bs : Batches) (start kept : KeptParts) (ps more : List (List ℕ)) (n : ℕ)
    (d : Option Damage) → AllSound bs → ps ++ more ≡ texts bs → IsRecalled ps start n d kept
    → IsAfterBeginning bs start kept
beginning_of bs start kept ps more n d sound e r =
    let grouped : r.front ++ (r.later ++ more) ≡ texts bs =
    sym (append_assoc r.front r.later more) ∙ ap (λ (qs : List (List ℕ)). qs ++ more) (sym r.are) ∙ e in
    let f = front_of bs r.front (r.later ++ more) grouped in
    let all = sound_front f.ahead f.behind (subst AllSound f.are sound) in
    record {
      front = f.ahead;
      back = f.behind;
      are = f.are;
      after = done_of f.ahead start kept all (subst (λ qs. TakesAll qs start kept) f.texts_are r.took);
    }

pub cut_recalled : (start kept : KeptParts) (bytes : List ℕ) (m used : ℕ)
    (d : Option Damage) (bs : Batches) (n : ℕ) → AreBatches bs → bytes ≡ take n (journal_of bs)
    → Recalls start bytes m used d kept → IsAfterBeginning bs start kept
cut_recalled start kept bytes m used d bs n all are r =
    let split = subst (λ (b : List ℕ). Splits b r.payloads r.rest) are r.splits in
    let k = cut (texts bs) r.payloads r.rest n (fit_of bs all) split in
    let whole : r.payloads ++ drop k.0 (texts bs) ≡ texts bs =
    ap (λ (qs : List (List ℕ)). qs ++ drop k.0 (texts bs)) k.1 ∙ take-append-drop k.0 (texts bs) in
    beginning_of bs start kept r.payloads (drop k.0 (texts bs)) m d (sound_of bs all) whole r.recalled

-- ---- all of them

-- if all batches can be done, all are
all_done : (ps : List (List ℕ)) (start kept wanted : KeptParts) (n : ℕ) (d : Option Damage)
    → TakesAll ps start wanted → IsRecalled ps start n d kept
    → (kept ≡ wanted) × (d ≡ None) × (n ≡ length ps)
all_done ps start kept wanted n d t r = go d r.later r.ends r.are where
  go : (d : Option Damage) (later : List (List ℕ)) → EndsBy later kept d → ps ≡ r.front ++ later
      → (kept ≡ wanted) × (d ≡ None) × (n ≡ length ps)
  go None [] ends are =
      let whole : ps ≡ r.front = are ∙ append-nil r.front in (
        takes_same ps start kept wanted (subst (λ qs. TakesAll qs start kept) (sym whole) r.took) t,
        refl,
        sym r.count ∙ ap length (sym whole),
      )
  go None (p ∷ qs) ends are = absurd (no_list p qs ends)
  go (Some d) [] ends are = absurd ends
  go (Some d) (p ∷ qs) ends are =
      absurd (none_stops ps start wanted n d t (record {
        front = r.front;
        next = p;
        later = qs;
        are = are;
        count = r.count;
        kept = kept;
        took = r.took;
        fails = ends;
      }))

pub whole_recalled : (start kept wanted : KeptParts) (bytes torn : List ℕ) (m used : ℕ)
    (d : Option Damage) (bs : Batches) → AreBatches bs → frame_at torn ≡ None
    → bytes ≡ journal_of bs ++ torn → after_all bs start ≡ Ok wanted
    → Recalls start bytes m used d kept
    → (kept ≡ wanted) × (d ≡ None) × (m ≡ length bs)
whole_recalled start kept wanted bytes torn m used d bs all none are done r =
    let split = subst (λ (b : List ℕ). Splits b r.payloads r.rest) are r.splits in
    let same : r.payloads ≡ texts bs = torn_end (texts bs) r.payloads torn r.rest (fit_of bs all) none split in
    let took = took_of bs start wanted (sound_of bs all) done in
    let a = all_done (texts bs) start kept wanted m d took (subst (λ ps. IsRecalled ps start m d kept) same r.recalled) in
    (a.0, a.1, a.2 ∙ length-map bs payload_of)

pub if_ok : {T E : Type 0} (r : Result T E) (P Q : T → Type 0) → ((x : T) → P x → Q x) → IfOk r P
    → IfOk r Q
if_ok (Ok x) P Q f p = f x p
if_ok (Err e) P Q f p = tt

-- ---- a frame that does not count

-- one fails for one reason
fails_one : (p : List ℕ) (a : KeptParts) (d e : Damage) → Fails p a d → Fails p a e → d ≡ e
fails_one p a d e (inl f) (inl g) = f.0 ∙ sym g.0
fails_one p a d e (inl f) (inr g) = absurd (f.1 g.0 g.1)
fails_one p a d e (inr f) (inl g) = absurd (g.1 f.0 f.1)
fails_one p a d e (inr f) (inr g) =
    let same = one_batch p f.0 g.0 f.1 g.1 in
    let both = sym f.2 ∙ ap (λ (rs : List RecordParts). after_batch rs a) same ∙ g.2 in
    cc both

fails_not_takes : (p : List ℕ) (a b : KeptParts) (d : Damage) → Fails p a d → Takes p a b → ⊥
fails_not_takes p a b d f t = no_fault p a b d t f

-- what is recalled if this payload does not count
stopped_at : (ps : List (List ℕ)) (bad : List ℕ) (more front later : List (List ℕ))
    (start wanted kept : KeptParts) (why : Damage) (d : Option Damage) → TakesAll ps start wanted
    → Fails bad wanted why → ps ++ bad ∷ more ≡ front ++ later → TakesAll front start kept
    → EndsBy later kept d → (kept ≡ wanted) × (d ≡ Some why) × (length front ≡ length ps)
stopped_at [] bad more [] later start wanted kept why None t f e took ends =
    absurd (no_list bad more (e ∙ ends))
stopped_at [] bad more [] [] start wanted kept why (Some d) t f e took ends = absurd ends
stopped_at [] bad more [] (q ∷ qs) start wanted kept why (Some d) t f e took ends =
    let same : kept ≡ wanted = took ∙ sym t in
    let first : q ≡ bad = sym (head_is bad q more qs e) in
    let here = subst (λ p. Fails p wanted d) first (subst (λ k. Fails q k d) same ends) in
    (same, ap (λ (x : Damage). Some x) (fails_one bad wanted d why here f), refl)
stopped_at [] bad more (q ∷ front) later start wanted kept why d t f e took ends =
    let first : q ≡ bad = sym (head_is bad q more (front ++ later) e) in
    let takes = subst (λ p. Takes p start took.0) first took.1 in
    absurd (fails_not_takes bad start took.0 why (subst (λ k. Fails bad k why) t f) takes)
stopped_at (p ∷ ps) bad more [] later start wanted kept why None t f e took ends =
    absurd (no_list p (ps ++ bad ∷ more) (e ∙ ends))
stopped_at (p ∷ ps) bad more [] [] start wanted kept why (Some d) t f e took ends = absurd ends
stopped_at (p ∷ ps) bad more [] (q ∷ qs) start wanted kept why (Some d) t f e took ends =
    let first : q ≡ p = sym (head_is p q (ps ++ bad ∷ more) qs e) in
    let fails = subst (λ r. Fails r start d) first (subst (λ k. Fails q k d) took ends) in
    absurd (fails_not_takes p start t.0 d fails t.1)
stopped_at (p ∷ ps) bad more (q ∷ front) later start wanted kept why d t f e took ends =
    let first : q ≡ p = sym (head_is p q (ps ++ bad ∷ more) (front ++ later) e) in
    let rest = tail_is p q (ps ++ bad ∷ more) (front ++ later) e in
    let mid : took.0 ≡ t.0 = takes_one p start took.0 t.0 (subst (λ r. Takes r start took.0) first took.1) t.1 in
    let went = subst (λ k. TakesAll front k kept) mid took.2 in
    let s = stopped_at ps bad more front later t.0 wanted kept why d t.2 f rest went ends in
    (s.0, s.1, ap (λ (n : ℕ). suc n) s.2)

pub damaged_recalled : (start kept wanted : KeptParts) (bytes bad more : List ℕ) (m used : ℕ)
    (d : Option Damage) (bs : Batches) (why : Damage) → AreBatches bs → length bad < 2 ^ 32
    → bytes ≡ journal_of bs ++ (frame bad ++ more) → after_all bs start ≡ Ok wanted
    → Fails bad wanted why → Recalls start bytes m used d kept
    → (kept ≡ wanted) × (d ≡ Some why) × (m ≡ length bs)
damaged_recalled start kept wanted bytes bad more m used d bs why all fits are done fails r =
    let split = subst (λ (b : List ℕ). Splits b r.payloads r.rest) are r.splits in
    let front = behind (texts bs) (frame bad ++ more) r.payloads r.rest (fit_of bs all) split in
    let next = front_frame bad more front.0 r.rest fits front.2 in
    let took = took_of bs start wanted (sound_of bs all) done in
    let order : texts bs ++ bad ∷ next.0 ≡ r.recalled.front ++ r.recalled.later =
    ap (λ (qs : List (List ℕ)). texts bs ++ qs) (sym next.1) ∙ sym front.1 ∙ r.recalled.are in
    let s = stopped_at (texts bs) bad next.0 r.recalled.front r.recalled.later start wanted kept why d took fails order r.recalled.took r.recalled.ends in
    (s.0, s.1, sym r.recalled.count ∙ s.2 ∙ length-map bs payload_of)
