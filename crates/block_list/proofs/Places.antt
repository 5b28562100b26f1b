-- Where an item of a list in blocks is, and what a change of one block makes of the list.
use Rattle.block_list.proofs.Words
use Words.{◌%◌, ◌*◌, ◌++◌, ◌+◌, ◌-◌, ◌/◌, ◌<◌, ◌∙◌, ◌∷◌, ◌≡◌, ◌≤◌, IsTiled, List, Shelf, VecDeque}
use Words.{[], ap, arith, deque_len, drop, get_or, insert, items_of, length, length-append, refl}
use Words.{remove, set, share, shelf, suc, sym, take, ℕ}
use Rattle.std.proofs.{Common.{length-set, min}, lemmas.List.{get_or-append_right, get_or-take}}
use Rattle.std.proofs.lemmas.List.{get_or_append_left, get_or_read, length-take, set-append_left}
use Rattle.std.proofs.lemmas.List.{set-append_right, set-get_or, set_split, Concat.flat_map-append}
use Rattle.std.proofs.lemmas.List.Edits.{insert-append_left, insert-append_right}
use Rattle.std.proofs.lemmas.List.Edits.{remove-append_left, remove-append_right}
use Rattle.std.specs.VecDeque.{deque_with_item}

module _ {X Z : Type 0} where
  -- how many items blocks have that have their share
  long : (bs : List (VecDeque X Z)) (len : ℕ) → ((i : ℕ) (d : VecDeque X Z) → i < length bs
      → deque_len (get_or bs i d) ≡ share len i) → length (items_of bs) ≡ min len (length bs * 128)
  long [] len filled = omega arith
  long (b ∷ bs) len filled =
      let rest = long bs (len - 128) (λ i d l. omega (arith, filled (suc i) d (omega arith))) in
      omega (arith, length-append b.items (items_of bs), filled 0 b (omega arith), b.ok.0, rest)

  -- the block at a place, after blocks that are full
  pub record IsBlock (bs : List (VecDeque X Z)) (i : ℕ) (b : VecDeque X Z) : Type 0 where
    pub inside : i < length bs
    pub is : b ≡ get_or bs i b
    pub before : length (items_of (take i bs)) ≡ i * 128

  pub block : (bs : List (VecDeque X Z)) (len i : ℕ) (b : VecDeque X Z) → i < length bs
      → b ≡ get_or bs i b → i * 128 ≤ len
      → ((j : ℕ) (d : VecDeque X Z) → j < i → deque_len (get_or bs j d) ≡ share len j)
      → IsBlock bs i b
  block bs len i b l is low filled =
      let n = length-take i bs in
      let front = long (take i bs) (i * 128) (λ j d k.
      grind (arith, get_or-take i bs j d, filled j d)) in
      record { inside = l; is = is; before = omega (arith, front, n) }

  -- ---- a place in a block

  module _ (bs : List (VecDeque X Z)) (place i o : ℕ) (at : i * 128 + o ≡ place)
      (b : VecDeque X Z) (k : IsBlock bs i b) where
    abbrev before : List X
    before = items_of (take i bs)

    abbrev after : List X
    after = items_of (drop (suc i) bs)

    abbrev rest : List X
    rest = b.items ++ after

    set_is : (n : VecDeque X Z) → items_of (set bs i n) ≡ before ++ (n.items ++ after)
    set_is n =
        rw (set_split bs i n k.inside)
        (flat_map-append (λ (b : VecDeque X Z). b.items) (take i bs) (n ∷ drop (suc i) bs))

    items_are : items_of bs ≡ before ++ rest
    items_are = cc (set-get_or bs i b, set_is b, k.is)

    there : place - i * 128 ≡ o
    there = omega arith

    pub item_in : (d : X) → o < length b.items → get_or (items_of bs) place d ≡ get_or b.items o d
    item_in d l =
        let right = get_or-append_right before rest (i * 128) place d k.before (omega arith) in
        cc (items_are, there, right, get_or_append_left b.items after d o l)

    -- an edit of the block is one of the list
    edited : (edit : List X → ℕ → List X) (n : VecDeque X Z) → edit (before ++ rest) place
        ≡ before ++ edit rest (place - i * 128) → edit rest o ≡ edit b.items o ++ after → n.items
        ≡ edit b.items o → items_of (set bs i n) ≡ edit (items_of bs) place
    edited edit n right left e = cc (set_is n, items_are, there)

    written_in : (n : VecDeque X Z) (x : X) → o < length b.items → n.items ≡ set b.items o x
        → items_of (set bs i n) ≡ set (items_of bs) place x
    written_in n x l =
        edited (λ xs j. set xs j x) n
        (set-append_right before rest (i * 128) place x k.before (omega arith))
        (set-append_left b.items after o x l)

    pub inserted_in : (n : VecDeque X Z) (x : X) → o ≤ length b.items → n.items ≡ insert b.items o x
        → items_of (set bs i n) ≡ insert (items_of bs) place x
    inserted_in n x l =
        edited (λ xs j. insert xs j x) n
        (insert-append_right before rest (i * 128) place x k.before (omega arith))
        (insert-append_left b.items after o x l)

    removed_in : (n : VecDeque X Z) → o < length b.items → n.items ≡ remove b.items o
        → items_of (set bs i n) ≡ remove (items_of bs) place
    removed_in n l =
        edited (λ xs j. remove xs j) n
        (remove-append_right before rest (i * 128) place k.before (omega arith))
        (remove-append_left b.items after o l)

-- ---- an item of a list

module _ {X Z : Type 0} {bs : List (VecDeque X Z)} {len : ℕ} {s : Shelf X} (t : IsTiled bs len)
    (e : shelf bs len ≡ s) where
  whole : items_of bs ≡ s.items
  whole = ap (λ (s : Shelf X). s.items) e

  pub counted : length s.items ≡ len
  counted = ap length (sym whole) ∙ (omega (arith, long bs len t.filled, t.within))

  pub inside : (place : ℕ) → place < length s.items → place / 128 < length bs
  inside place p = omega (arith, counted, t.within)

  -- how many items a block has that is begun
  pub share_of : (i : ℕ) (b : VecDeque X Z) → b ≡ get_or bs i b → i * 128 < length s.items
      → deque_len b ≡ share (length s.items) i
  share_of i b is l =
      let filled = t.filled i b (omega (arith, counted, t.within)) in
      let same = ap (λ (x : VecDeque X Z). deque_len x) is in
      omega (arith, filled, same, counted)

  -- a block, and a place in it
  module _ (place i o : ℕ) (at : i * 128 + o ≡ place) (small : o < 128)
      (p : place < length s.items) (b : VecDeque X Z) (is : b ≡ get_or bs i b) where
    here : IsBlock bs i b
    here =
        block bs len i b (omega (arith, counted, t.within)) is (omega (arith, counted))
        (λ j d k. t.filled j d (omega (arith, counted, t.within)))

    offset_in : o < deque_len b
    offset_in = omega (arith, share_of i b is (omega arith))

    within : o < length b.items
    within = omega (arith, offset_in, b.ok.0)

    pub read_in : (x : X) → x ≡ get_or b.items o x → (d : X) → get_or s.items place d ≡ x
    read_in x r d =
        let item = item_in bs place i o at b here d within in
        cc (item, whole, get_or_read b.items o x within r d)

  -- the block of an item
  module _ (place : ℕ) (p : place < length s.items) (b : VecDeque X Z)
      (is : b ≡ get_or bs (place / 128) b) where
    abbrev i : ℕ
    i = place / 128

    abbrev o : ℕ
    o = place % 128

    abbrev at : i * 128 + o ≡ place
    at = omega arith

    pub offset : o < deque_len b
    offset = offset_in place i o at (omega arith) p b is

    pub item_at : (x : X) → x ≡ get_or b.items o x → x ≡ get_or s.items place x
    item_at x r = sym (read_in place i o at (omega arith) p b is x r x)

    abbrev block_at : IsBlock bs i b
    block_at = here place i o at (omega arith) p b is

    abbrev within_at : o < length b.items
    within_at = within place i o at (omega arith) p b is

    -- what a write to the item makes of the list
    pub lent : (w : X) → shelf (set bs i (deque_with_item b o w)) len
        ≡ record { items = set s.items place w; spare = s.spare }
    lent w =
        let n = deque_with_item b o w in
        let new = written_in bs place i o at b block_at n w within_at refl in
        let spare = ap (λ (s : Shelf X). s.spare) e in
        cc (new, whole, length-set bs i n, spare)

    pub removed_at : (n : VecDeque X Z) → n.items ≡ remove b.items o
        → items_of (set bs i n) ≡ remove s.items place
    removed_at n r = cc (removed_in bs place i o at b block_at n within_at r, whole)
