-- What a file begins with shows whether it is a journal.
use Rattle.std.proofs.Common.{◌≡◌, ◌∙◌, ◌+◌, ◌-◌, ◌^◌, ◌<◌, ◌≤◌, ◌++◌, arith, ℕ, Bool, List, []}
use Rattle.std.proofs.Common.{Option, true, false, Some, None, refl, sym, ap, inl, inr, length, take}
use Rattle.std.proofs.Common.{append-nil, subst}
use Rattle.std.proofs.lemmas.Bool.{cases_lt}
use Rattle.std.proofs.lemmas.List.{length-append, length-take-le, take-append-le, take_all}
use Rattle.std.proofs.lemmas.List.Concat.{flat_map-append}
use Rattle.std.proofs.lemmas.Slice.Eq.{bytes_eq-Decides}
use Rattle.std.specs.Prelude.{◌||◌, nat_eq}
use Rattle.std.specs.List.{flat_map, starts_with}
use Rattle.std.specs.Str.{bytes_eq}
use Rattle.frames.specs.Frames.{frame, frame_at}
use Rattle.frames.proofs.OneFrame.{frame_again, frame_long, frame_short, some_pair, take_past}
use Rattle.journal.specs.Header.{IsForeign, IsPart, header_for}
use Rattle.journal.specs.Kept.{KeptParts}
use Rattle.journal.specs.Recalls.{Recalls, RecallsBehind}
use Rattle.journal.specs.declared.damage.Damage.{Damage}

none_is_some : {A : Type 0} (x : A) → None ≡ Some x → ⊥
none_is_some x e = absurd cc

true_is_false : true ≡ false → ⊥
true_is_false e = absurd cc

-- the frame at the front is not cut
whole_front : (text more : List ℕ) (n : ℕ) → length text < 2 ^ 32 → length (frame text) ≤ n
    → frame_at (take n (frame text ++ more))
    ≡ Some (text, take (n - length (frame text)) more)
whole_front text more n fits le =
    ap frame_at (take_past (frame text) more n le)
    ∙ frame_again text (take (n - length (frame text)) more) fits

cut_front : (text more : List ℕ) (n : ℕ) → length text < 2 ^ 32 → n < length (frame text)
    → (take n (frame text ++ more) ≡ take n (frame text))
    × (frame_at (take n (frame text ++ more)) ≡ None)
cut_front text more n fits lt =
    let part : take n (frame text ++ more) ≡ take n (frame text) =
    take-append-le n (frame text) more (omega (arith, lt)) in
    (part, ap frame_at part ∙ frame_short text n fits (omega (arith, lt, frame_long text)))

-- ---- the two headers

pub header_short : (rings : Bool) → length (header_for rings) < 2 ^ 32
unfolding header_for
header_short true = omega arith
header_short false = omega arith

headers_differ : header_for false ≡ header_for true → ⊥
unfolding header_for
headers_differ e = absurd cc

one_header : (a b : Bool) → header_for a ≡ header_for b → a ≡ b
one_header true true e = refl
one_header true false e = absurd (headers_differ (sym e))
one_header false true e = absurd (headers_differ e)
one_header false false e = refl

frame_front : (rings : Bool) (bytes more : List ℕ) → bytes ≡ frame (header_for rings) ++ more
    → frame_at bytes ≡ Some (header_for rings, more)
frame_front rings bytes more are =
    ap frame_at are ∙ frame_again (header_for rings) more (header_short rings)

-- bytes begin with one of them, and in one way
pub same_front : (a b : Bool) (bytes more rest : List ℕ) → bytes ≡ frame (header_for a) ++ more
    → bytes ≡ frame (header_for b) ++ rest → (a ≡ b) × (more ≡ rest)
same_front a b bytes more rest one other =
    let both = some_pair (header_for a, more) (header_for b, rest)
    (sym (frame_front a bytes more one) ∙ frame_front b bytes rest other) in
    (one_header a b both.0, both.1)

-- the same of a file that was cut
pub cut_front_is : (a b : Bool) (bytes more rest : List ℕ) (n : ℕ)
    → bytes ≡ frame (header_for a) ++ more → bytes ≡ take n (frame (header_for b) ++ rest)
    → (a ≡ b) × (more ≡ take (n - length (frame (header_for b))) rest)
cut_front_is a b bytes more rest n one other =
    elim (cases_lt n (length (frame (header_for b)))) [
      | inl lt ↦
          absurd (none_is_some (header_for a, more)
          (sym (cut_front (header_for b) rest n (header_short b) lt).1 ∙ ap frame_at (sym other)
          ∙ frame_front a bytes more one))
      | inr le ↦
          same_front a b bytes more (take (n - length (frame (header_for b))) rest) one
          (other ∙ take_past (frame (header_for b)) rest n le)
    ]

-- a part of one is no frame
pub no_frame : (bytes : List ℕ) → IsPart bytes → frame_at bytes ≡ None
no_frame bytes part =
    ap frame_at part.are
    ∙ frame_short (header_for part.rings) part.size (header_short part.rings)
    (omega (arith, part.short, frame_long (header_for part.rings)))

-- no file that was written is a part of one
pub not_part : (rings : Bool) (bytes more : List ℕ) → bytes ≡ frame (header_for rings) ++ more
    → IsPart bytes → ⊥
not_part rings bytes more are part =
    none_is_some (header_for rings, more)
    (sym (no_frame bytes part) ∙ frame_front rings bytes more are)

pub part_is : (rings : Bool) (bytes : List ℕ) → frame_at bytes ≡ None
    → starts_with nat_eq (frame (header_for rings)) bytes ≡ true → IsPart bytes
part_is rings bytes none starts =
    let whole = frame (header_for rings) in
    let are : bytes ≡ take (length bytes) whole =
    (bytes_eq-Decides bytes (take (length bytes) whole)).0 starts in
    elim (cases_lt (length bytes) (length whole)) [
      | inl lt ↦ record { rings = rings; size = length bytes; short = lt; are = are }
      | inr le ↦
          let all : bytes ≡ whole ++ [] =
          are ∙ take_all (length bytes) whole le ∙ sym (append-nil whole) in
          absurd (none_is_some (header_for rings, [])
          (sym none ∙ frame_front rings bytes [] all))
    ]

foreign_one : (rings : Bool) (bytes : List ℕ) → frame_at bytes ≡ None
    → starts_with nat_eq (frame (header_for rings)) bytes ≡ false → (more : List ℕ) (n : ℕ)
    → bytes ≡ take n (frame (header_for rings) ++ more) → ⊥
foreign_one rings bytes none starts more n are =
    let header = header_for rings in
    elim (cases_lt n (length (frame header))) [
      | inl lt ↦
          let part : bytes ≡ take n (frame header) =
          are ∙ (cut_front header more n (header_short rings) lt).0 in
          let long : length bytes ≡ n =
          ap length part ∙ length-take-le n (frame header) (omega (arith, lt)) in
          let same : bytes ≡ take (length bytes) (frame header) =
          part ∙ ap (λ (k : ℕ). take k (frame header)) (sym long) in
          true_is_false
          (sym ((bytes_eq-Decides bytes (take (length bytes) (frame header))).1 same) ∙ starts)
      | inr le ↦
          none_is_some (header, take (n - length (frame header)) more)
          (sym none ∙ ap frame_at are ∙ whole_front header more n (header_short rings) le)
    ]

-- whether bytes are a part of one of the two
pub either_part : (bytes : List ℕ) (without with : Bool) → frame_at bytes ≡ None
    → without ≡ starts_with nat_eq (frame (header_for false)) bytes
    → with ≡ starts_with nat_eq (frame (header_for true)) bytes → (without || with) ≡ true
    → IsPart bytes
either_part bytes true with none one other is = part_is false bytes none (sym one)
either_part bytes false true none one other is = part_is true bytes none (sym other)
either_part bytes false false none one other is = absurd cc

pub foreign_none : (bytes : List ℕ) → frame_at bytes ≡ None
    → starts_with nat_eq (frame (header_for false)) bytes ≡ false
    → starts_with nat_eq (frame (header_for true)) bytes ≡ false → IsForeign bytes
foreign_none bytes none without with false more n are =
    foreign_one false bytes none without more n are
foreign_none bytes none without with true more n are =
    foreign_one true bytes none with more n are

pub foreign_some : (bytes text rest : List ℕ) → length text < 2 ^ 32 → bytes ≡ frame text ++ rest
    → ((rings : Bool) → text ≡ header_for rings → ⊥) → IsForeign bytes
foreign_some bytes text rest fit found other rings more n are =
    let header = header_for rings in
    let read : frame_at bytes ≡ Some (text, rest) =
    ap frame_at found ∙ frame_again text rest fit in
    elim (cases_lt n (length (frame header))) [
      | inl lt ↦
          none_is_some (text, rest)
          (sym (cut_front header more n (header_short rings) lt).1 ∙ ap frame_at (sym are) ∙ read)
      | inr le ↦
          other rings (some_pair (text, rest) (header, take (n - length (frame header)) more)
          (sym read ∙ ap frame_at are ∙ whole_front header more n (header_short rings) le)).0
    ]

-- a text that is none of them
other_text : (rings : Bool) (text : List ℕ) → bytes_eq text (header_for rings) ≡ false
    → text ≡ header_for rings → ⊥
other_text rings text differs same =
    true_is_false (sym ((bytes_eq-Decides text (header_for rings)).1 same) ∙ differs)

pub no_header : (text : List ℕ) → bytes_eq text (header_for false) ≡ false
    → bytes_eq text (header_for true) ≡ false → (rings : Bool) → text ≡ header_for rings → ⊥
no_header text without with false same = other_text false text without same
no_header text without with true same = other_text true text with same

-- ---- how many bytes count

pub behind_short : (start kept : KeptParts) (rings : Bool) (bytes more : List ℕ) (m size : ℕ)
    (d : Option Damage) → bytes ≡ frame (header_for rings) ++ more
    → Recalls start more m size d kept
    → (length more + length (frame (header_for rings)) ≡ length bytes) × (size ≤ length more)
behind_short start kept rings bytes more m size d are r =
    let header = header_for rings in
    let front = flat_map frame r.recalled.front in
    let halves : flat_map frame r.payloads ≡ front ++ flat_map frame r.recalled.later =
    ap (flat_map frame) r.recalled.are ∙ flat_map-append frame r.recalled.front r.recalled.later in
    let all : length more ≡ length (flat_map frame r.payloads) + length r.rest =
    ap length r.splits.parts ∙ length-append (flat_map frame r.payloads) r.rest in
    let both : length (flat_map frame r.payloads)
    ≡ length front + length (flat_map frame r.recalled.later) =
    ap length halves ∙ length-append front (flat_map frame r.recalled.later) in
    let total : length bytes ≡ length (frame header) + length more =
    ap length are ∙ length-append (frame header) more in
    (omega (arith, total), omega (arith, all, both, r.size))

pub behind_is : (start kept : KeptParts) (had rings : Bool) (bytes more : List ℕ) (m size used : ℕ)
    (d : Option Damage) → had ≡ rings → bytes ≡ frame (header_for rings) ++ more
    → Recalls start more m size d kept → used ≡ length bytes - length more + size
    → RecallsBehind start bytes had m used d kept
behind_is start kept had rings bytes more m size used d same are r is =
    let long = behind_short start kept rings bytes more m size d are r in
    subst (λ (b : Bool). RecallsBehind start bytes b m used d kept) (sym same)
    (record {
      more = more;
      behind = size;
      are = are;
      recalls = r;
      size = omega (arith, is, long.0);
    })
