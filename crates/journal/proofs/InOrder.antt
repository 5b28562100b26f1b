-- Payloads are done in order, and in one way.
use Rattle.std.proofs.Common.{◌≡◌, ◌∙◌, ◌+◌, ◌++◌, arith, ℕ, List, [], ◌∷◌, Some, Ok, Err, refl}
use Rattle.std.proofs.Common.{sym, ap, subst, inl, inr}
use Rattle.journal.proofs.Again.{one_batch}
use Rattle.journal.specs.Kept.{KeptParts, after_batch}
use Rattle.journal.specs.Records.{RecordParts}
use Rattle.std.proofs.Common.{Bor, None, append-nil, length, map, take}
use Rattle.std.proofs.lemmas.List.{length-map, take-map, take_at}
use Rattle.std.specs.List.{flat_map}
use Rattle.frames.specs.Frames.{Splits, frame}
use Rattle.journal.specs.Recalls.{Fails, Recalls, StopsAt, Takes, TakesAll}
use Rattle.journal.specs.declared.damage.Damage.{Damage}

pub takes_more : (ps : List (List ℕ)) (p : List ℕ) (a b c : KeptParts) → TakesAll ps a b
    → Takes p b c → TakesAll (ps ++ p ∷ []) a c
takes_more [] p a b c all one = (c, subst (λ k. Takes p k c) all one, refl)
takes_more (q ∷ ps) p a b c all one = (all.0, all.1, takes_more ps p all.0 b c all.2 one)

pub takes_one : (p : List ℕ) (a b c : KeptParts) → Takes p a b → Takes p a c → b ≡ c
takes_one p a b c t u =
    let same = one_batch p t.0 u.0 t.1 u.1 in
    let e = sym t.2 ∙ ap (λ (rs : List RecordParts). after_batch rs a) same ∙ u.2 in
    cc e

pub takes_same : (ps : List (List ℕ)) (a b c : KeptParts) → TakesAll ps a b → TakesAll ps a c
    → b ≡ c
takes_same [] a b c t u = t ∙ sym u
takes_same (p ∷ ps) a b c t u =
    let mid = takes_one p a t.0 u.0 t.1 u.1 in
    takes_same ps u.0 b c (subst (λ k. TakesAll ps k b) mid t.2) u.2

pub takes_split : (ps qs : List (List ℕ)) (a c : KeptParts) → TakesAll (ps ++ qs) a c
    → (b : KeptParts) × TakesAll ps a b × TakesAll qs b c
takes_split [] qs a c t = (a, refl, t)
takes_split (p ∷ ps) qs a c t =
    let s = takes_split ps qs t.0 c t.2 in
    (s.0, (t.0, t.1, s.1), s.2)

ok_err : {A E : Type 0} (x : A) (e : E) → Ok x ≡ Err e → ⊥
ok_err x e same = absurd cc

-- what counts does not fail
pub no_fault : (p : List ℕ) (a b : KeptParts) (d : Damage) → Takes p a b → Fails p a d → ⊥
no_fault p a b d t (inl none) = none.1 t.0 t.1
no_fault p a b d t (inr some) =
    let same = one_batch p t.0 some.0 t.1 some.1 in
    ok_err b d (sym t.2 ∙ ap (λ (rs : List RecordParts). after_batch rs a) same ∙ some.2)

-- if all count, none stops
pub none_stops : (ps : List (List ℕ)) (a c : KeptParts) (n : ℕ) (d : Damage) → TakesAll ps a c
    → StopsAt ps a n d → ⊥
none_stops ps a c n d t s =
    let parts = takes_split s.front (s.next ∷ s.later) a c (subst (λ qs. TakesAll qs a c) s.are t) in
    let same = takes_same s.front a parts.0 s.kept parts.1 s.took in
    no_fault s.next s.kept parts.2.0 d (subst (λ k. Takes s.next k parts.2.0) same parts.2.1) s.fails

-- ---- one by one

pub stops_here : (p : List ℕ) (ps : List (List ℕ)) (a : KeptParts) (d : Damage) → Fails p a d
    → StopsAt (p ∷ ps) a 0 d
stops_here p ps a d f = record {
  front = [];
  next = p;
  later = ps;
  are = refl;
  count = refl;
  kept = a;
  took = refl;
  fails = f;
}

pub stops_later : (p : List ℕ) (ps : List (List ℕ)) (a b : KeptParts) (n : ℕ) (d : Damage)
    → Takes p a b → StopsAt ps b n d → StopsAt (p ∷ ps) a (n + 1) d
stops_later p ps a b n d t s = record {
  front = p ∷ s.front;
  next = s.next;
  later = s.later;
  are = ap (λ (qs : List (List ℕ)). p ∷ qs) s.are;
  count = omega (arith, s.count);
  kept = s.kept;
  took = (b, t, s.took);
  fails = s.fails;
}

-- ---- up to where they count

abbrev texts : List (Bor (List ℕ)) → List (List ℕ)
texts ps = map (λ p. p.now) ps

texts_taken : (n : ℕ) (ps : List (Bor (List ℕ))) → texts (take n ps) ≡ take n (texts ps)
texts_taken n ps = sym (take-map (λ (p : Bor (List ℕ)). p.now) n ps)

-- those that count are those before the one that does not
front_is : (ps : List (Bor (List ℕ))) (start : KeptParts) (n : ℕ) (d : Damage)
    → (s : StopsAt (texts ps) start n d) → texts (take n ps) ≡ s.front
front_is ps start n d s =
    texts_taken n ps ∙ ap (take n) s.are ∙ take_at s.front (s.next ∷ s.later) n s.count

-- this many payloads are there
pub stops_within : (all ps : List (Bor (List ℕ))) (start : KeptParts) (n : ℕ) (d : Damage)
    → all ≡ ps → StopsAt (texts all) start n d → n ≡ length (take n ps)
stops_within all ps start n d same s =
    sym s.count ∙ ap length (sym (front_is all start n d s))
    ∙ length-map (take n all) (λ (p : Bor (List ℕ)). p.now) ∙ ap (λ qs. length (take n qs)) same

pub recalled_all : (bytes : List ℕ) (ps : List (Bor (List ℕ))) (rest : List ℕ)
    (start kept : KeptParts) (n used : ℕ) → Splits bytes (texts ps) rest
    → TakesAll (texts ps) start kept → n ≡ length ps → used ≡ length (flat_map frame (texts ps))
    → Recalls start bytes n used None kept
recalled_all bytes ps rest start kept n used split took count size = record {
  payloads = texts ps;
  rest = rest;
  splits = split;
  recalled = record {
    front = texts ps;
    later = [];
    are = sym (append-nil (texts ps));
    count = length-map ps (λ (p : Bor (List ℕ)). p.now) ∙ sym count;
    took = took;
    ends = refl;
  };
  size = size;
}

pub recalled_part : (bytes : List ℕ) (ps : List (Bor (List ℕ))) (rest : List ℕ)
    (start kept : KeptParts) (n used : ℕ) (d : Damage) → Splits bytes (texts ps) rest
    → StopsAt (texts ps) start n d → TakesAll (texts (take n ps)) start kept
    → used ≡ length (flat_map frame (texts (take n ps))) → Recalls start bytes n used (Some d) kept
recalled_part bytes ps rest start kept n used d split s took size =
    let front = subst (λ qs. TakesAll qs start kept) (front_is ps start n d s) took in
    let same : s.kept ≡ kept = takes_same s.front start s.kept kept s.took front in
    record {
      payloads = texts ps;
      rest = rest;
      splits = split;
      recalled = record {
        front = s.front;
        later = s.next ∷ s.later;
        are = s.are;
        count = s.count;
        took = front;
        ends = subst (λ k. Fails s.next k d) same s.fails;
      };
      size = size
          ∙ ap (λ (qs : List (List ℕ)). length (flat_map frame qs)) (front_is ps start n d s);
    }

pub no_second : (ps : List (Bor (List ℕ))) (start : KeptParts) (n m : ℕ) (d e : Damage)
    → StopsAt (texts ps) start n d → StopsAt (texts (take n ps)) start m e → ⊥
no_second ps start n m d e s t =
    none_stops s.front start s.kept m e s.took
    (subst (λ qs. StopsAt qs start m e) (front_is ps start n d s) t)
