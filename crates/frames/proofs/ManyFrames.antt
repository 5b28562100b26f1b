-- Of many frames each is read once, in order, and a part of the bytes is read as a beginning.
use Rattle.std.proofs.Common.{◌≡◌, ℕ, suc, ◌-◌, ◌^◌, ◌<◌, List, [], ◌∷◌, ◌++◌, length, take, Some, None, refl, sym, ap, subst, ◌∙◌, append_assoc, arith, inl, inr}
use Rattle.std.specs.List.{flat_map}
use Rattle.std.proofs.lemmas.Bool.{cases_lt}
use Rattle.std.proofs.lemmas.List.{append-nil, take_all, take-append-le}
use Rattle.frames.specs.Frames.{ArePayloads, Splits, frame, frame_at}
use Rattle.frames.proofs.OneFrame.{frame_again, frame_long, frame_none, frame_short, some_pair, take_past}

none_is_some : {A : Type 0} (x : A) → None ≡ Some x → ⊥
none_is_some x e = absurd cc

-- the frame at the front of what splits is the first payload's
front_is : (p rest : List ℕ) (qs : List (List ℕ)) (r : List ℕ) → length p < 2 ^ 32 → Splits (frame p ++ rest) qs r → (more : List (List ℕ)) × (qs ≡ p ∷ more) × Splits rest more r
front_is p rest [] r fits s = absurd (none_is_some (p, rest) (sym s.end ∙ ap frame_at (sym s.parts) ∙ frame_again p rest fits))
front_is p rest (q ∷ qs) r fits s =
    let regrouped : frame p ++ rest ≡ frame q ++ (flat_map frame qs ++ r) = s.parts ∙ append_assoc (frame q) (flat_map frame qs) r in
    let same : Some (p, rest) ≡ Some (q, flat_map frame qs ++ r) = sym (frame_again p rest fits) ∙ ap frame_at regrouped ∙ frame_again q (flat_map frame qs ++ r) s.fits.0 in
    let both = some_pair (p, rest) (q, flat_map frame qs ++ r) same in
    (qs, ap (λ (x : List ℕ). x ∷ qs) (sym both.0), record { parts = both.1; fits = s.fits.1; end = s.end })

-- so it is if the frame comes in front of any bytes
pub front_frame : (p rest : List ℕ) (qs : List (List ℕ)) (r : List ℕ) → length p < 2 ^ 32
    → Splits (frame p ++ rest) qs r → (more : List (List ℕ)) × (qs ≡ p ∷ more) × Splits rest more r
front_frame = front_is

-- what begins no frame has no payloads
none_split : (bytes : List ℕ) (qs : List (List ℕ)) (r : List ℕ) → frame_at bytes ≡ None → Splits bytes qs r → (qs ≡ []) × (r ≡ bytes)
none_split bytes [] r none s = (refl, sym s.parts)
none_split bytes (q ∷ qs) r none s =
    let regrouped : bytes ≡ frame q ++ (flat_map frame qs ++ r) = s.parts ∙ append_assoc (frame q) (flat_map frame qs) r in
    absurd (none_is_some (q, flat_map frame qs ++ r) (sym none ∙ ap frame_at regrouped ∙ frame_again q (flat_map frame qs ++ r) s.fits.0))

pub one_split : (bytes : List ℕ) (ps qs : List (List ℕ)) (p_rest q_rest : List ℕ) → Splits bytes ps p_rest → Splits bytes qs q_rest → (ps ≡ qs) × (p_rest ≡ q_rest)
one_split bytes [] qs p_rest q_rest s t =
    let none : frame_at bytes ≡ None = ap frame_at s.parts ∙ s.end in
    let n = none_split bytes qs q_rest none t in
    (sym n.0, sym s.parts ∙ sym n.1)
one_split bytes (p ∷ ps) qs p_rest q_rest s t =
    let regrouped : bytes ≡ frame p ++ (flat_map frame ps ++ p_rest) = s.parts ∙ append_assoc (frame p) (flat_map frame ps) p_rest in
    let f = front_is p (flat_map frame ps ++ p_rest) qs q_rest s.fits.0 (subst (λ (b : List ℕ). Splits b qs q_rest) regrouped t) in
    let same = one_split (flat_map frame ps ++ p_rest) ps f.0 p_rest q_rest (record { parts = refl; fits = s.fits.1; end = s.end }) f.2 in
    (ap (λ (more : List (List ℕ)). p ∷ more) same.0 ∙ sym f.1, same.1)

-- the frames in front are read first
pub behind : (ps : List (List ℕ)) (bytes : List ℕ) (qs : List (List ℕ)) (r : List ℕ) → ArePayloads ps → Splits (flat_map frame ps ++ bytes) qs r → (more : List (List ℕ)) × (qs ≡ ps ++ more) × Splits bytes more r
behind [] bytes qs r fits s = (qs, refl, s)
behind (p ∷ ps) bytes qs r fits s =
    let regrouped : (frame p ++ flat_map frame ps) ++ bytes ≡ frame p ++ (flat_map frame ps ++ bytes) = append_assoc (frame p) (flat_map frame ps) bytes in
    let f = front_is p (flat_map frame ps ++ bytes) qs r fits.0 (subst (λ (b : List ℕ). Splits b qs r) regrouped s) in
    let g = behind ps bytes f.0 r fits.1 f.2 in
    (g.0, f.1 ∙ ap (λ (more : List (List ℕ)). p ∷ more) g.1, g.2)

pub torn_end : (ps qs : List (List ℕ)) (torn rest : List ℕ) → ArePayloads ps → frame_at torn ≡ None → Splits (flat_map frame ps ++ torn) qs rest → qs ≡ ps
torn_end ps qs torn rest fits none s =
    let b = behind ps torn qs rest fits s in
    let n = none_split torn b.0 rest none b.2 in
    b.1 ∙ ap (λ (more : List (List ℕ)). ps ++ more) n.0 ∙ append-nil ps

pub cut : (ps qs : List (List ℕ)) (rest : List ℕ) (n : ℕ) → ArePayloads ps → Splits (take n (flat_map frame ps)) qs rest → (k : ℕ) × (qs ≡ take k ps)
cut [] qs rest n fits s = (0, (none_split (take n []) qs rest (ap frame_at (take_all n [] (omega arith)) ∙ frame_none) s).0)
cut (p ∷ ps) qs rest n fits s =
    elim (cases_lt n (length (frame p))) [
      | inl lt ↦
          let part : take n (frame p ++ flat_map frame ps) ≡ take n (frame p) = take-append-le n (frame p) (flat_map frame ps) (omega arith) in
          let none : frame_at (take n (frame p ++ flat_map frame ps)) ≡ None = ap frame_at part ∙ frame_short p n fits.0 (omega (arith, frame_long p)) in
          let e = none_split (take n (frame p ++ flat_map frame ps)) qs rest none s in
          (0, e.0)
      | inr le ↦
          let whole : take n (frame p ++ flat_map frame ps) ≡ frame p ++ take (n - length (frame p)) (flat_map frame ps) = take_past (frame p) (flat_map frame ps) n le in
          let f = front_is p (take (n - length (frame p)) (flat_map frame ps)) qs rest fits.0 (subst (λ (b : List ℕ). Splits b qs rest) whole s) in
          let g = cut ps f.0 rest (n - length (frame p)) fits.1 f.2 in
          (suc g.0, f.1 ∙ ap (λ (more : List (List ℕ)). p ∷ more) g.1)
    ]
