-- The bytes of what is kept.
use Rattle.history.proofs.NamedEntries.{AreSorted, map_of}
use Rattle.history.proofs.Words.{EntryParts, List, None, Option, Some, Vec, [], ap, arith, length}
use Rattle.history.proofs.Words.{lookup, nat_cmp, taken, ℕ, ◌++◌, ◌+◌, ◌-◌, ◌∷◌, ◌≡◌, ◌≤◌}
use Rattle.history.specs.{Marks.bytes_cmp, Named.named, Texts.{IsCut, parts_at, piece}}
use Rattle.history.specs.Weights.{entry_bytes, kept_bytes, marks_bytes}
use Rattle.std.proofs.lemmas.List.{Sums.{sum_by-cons, sum_by_push}, length-drop, length-take}
use Rattle.std.specs.{BTreeMap.is_at, FinMap.entries-from_sorted, List.sum_by}
use Rattle.weights.specs.Costs.{entry_cost, name_cost}

-- ---- a message

length-piece : (texts : List ℕ) (from end : ℕ) → end ≤ length texts
    → length (piece texts from end) ≡ end - from
length-piece texts from end le = grind (arith, length-take, length-drop)

-- pieces that come one after the other, from the first byte on
pieces : (texts : List ℕ) (a b c d e : ℕ) → a ≤ b → b ≤ c → c ≤ d → d ≤ e → e ≤ length texts
    → length (piece texts 0 a) + length (piece texts a b) + length (piece texts b c)
    + length (piece texts c d) + length (piece texts d e) ≡ e
pieces texts a b c d e ab bc cd de le =
    let first = length-piece texts 0 a (omega arith) in
    let second = length-piece texts a b (omega arith) in
    let third = length-piece texts b c (omega arith) in
    let fourth = length-piece texts c d (omega arith) in
    omega (arith, first, second, third, fourth, length-piece texts d e le)

-- the texts of a message are all that its memory has
pub bytes_at : (texts : List ℕ) (source_end command_end target_end text_end : ℕ)
    (time_end : Option ℕ) → IsCut texts source_end command_end target_end text_end time_end
    → entry_bytes (parts_at texts source_end command_end target_end text_end time_end)
    ≡ entry_cost + length texts
bytes_at texts a b c d None cut =
    let end = length texts in
    omega (arith, pieces texts a b c d end cut.source cut.command cut.target cut.text cut.time)
bytes_at texts a b c d (Some end) cut =
    let front = pieces texts a b c d end cut.source cut.command cut.target cut.text cut.time in
    omega (arith, front, length-piece texts end (length texts) (omega arith), cut.time)

-- ---- messages

-- one more
pub bytes_more : (kept : List (ℕ × EntryParts)) (number : ℕ) (e : EntryParts)
    → kept_bytes (kept ++ (number, e) ∷ []) ≡ kept_bytes kept + entry_bytes e
bytes_more kept number e = sum_by_push (λ (m : ℕ × EntryParts). entry_bytes m.1) kept (number, e)

-- one less
pub bytes_less : (kept : List (ℕ × EntryParts)) (number : ℕ) (e : EntryParts)
    → Some e ≡ lookup (is_at (nat_cmp number)) kept
    → kept_bytes kept ≡ kept_bytes (taken number kept) + entry_bytes e
bytes_less [] number e found = cc
bytes_less (m ∷ kept) number e found =
    let cons = sum_by-cons (λ (m : ℕ × EntryParts). entry_bytes m.1) m in
    grind (arith, cons kept, cons (taken number kept), bytes_less kept number e)

-- ---- names

abbrev pub listed_bytes : List (List ℕ × Option ℕ) → ℕ
listed_bytes es = sum_by (λ m. name_cost + length m.0) es

pub listed_more : (e : List ℕ × Option ℕ) (es : List (List ℕ × Option ℕ))
    → listed_bytes (e ∷ es) ≡ (name_cost + length e.0) + listed_bytes es
listed_more e es = sum_by-cons (λ (m : List ℕ × Option ℕ). name_cost + length m.0) e es

-- the names of a tree
pub marks_listed : {A : Type 0} (es : List (Vec ℕ A × Option ℕ)) → AreSorted es
    → marks_bytes (map_of es) ≡ listed_bytes (named es)
marks_listed es s = ap listed_bytes (entries-from_sorted bytes_cmp (named es) s)
