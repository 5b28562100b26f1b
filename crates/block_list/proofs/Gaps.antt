-- Blocks one of which lacks an item.
use Rattle.block_list.proofs.Words
use Words.{◌≡◌, ◌≢◌, ◌∙◌, ℕ, zero, suc, ◌+◌, ◌/◌, ◌%◌, ◌^◌, ◌<◌, ◌≤◌, List, [], ◌∷◌, ◌++◌, length}
use Words.{ap, arith, append_assoc, get_or, set, insert, length-set}
use Words.{length_push, get_or-set_same, get_or-set_other, cases_eq, VecDeque, deque_len}
use Words.{deque_capacity, items_of, share, IsTiled, IsShort}
use Rattle.std.proofs.lemmas.List.{append-nil, set_comm, get_or_push, get_or_append_left}
use Rattle.std.proofs.lemmas.List.Concat.{flat_map-append}
use Rattle.block_list.proofs.Places.{block, inserted_in}

-- a block that is put in another's place
ruleset sets = (arith, get_or-set_same, get_or-set_other, length-set)

module _ {X Z : Type 0} where
  -- two blocks beside each other that keep their items between them
  kept : (bs : List (VecDeque X Z)) (g : ℕ) (b c n m : VecDeque X Z) → suc g < length bs
      → b ≡ get_or bs g b → c ≡ get_or bs (suc g) c → n.items ++ m.items ≡ b.items ++ c.items
      → items_of (set (set bs g n) (suc g) m) ≡ items_of bs
  kept [] g b c n m l is there e = absurd (omega arith)
  kept (_ ∷ []) g b c n m l is there e = absurd (omega arith)
  kept (_ ∷ _ ∷ bs) zero b c n m l is there e =
      cc (append_assoc n.items m.items (items_of bs), append_assoc b.items c.items (items_of bs))
  kept (a ∷ d ∷ bs) (suc g) b c n m l is there e =
      ap (λ k. a.items ++ k) (kept (d ∷ bs) g b c n m (omega arith) is there e)

  module _ (bs : List (VecDeque X Z)) (g h : ℕ) (b c n m : VecDeque X Z)
      (is : b ≡ get_or bs g b) (there : c ≡ get_or bs h c) where
    -- the last item of a block goes to the front of the next one
    pub passed : (x : X) → h ≡ suc g → h < length bs → b.items ≡ n.items ++ x ∷ []
        → m.items ≡ x ∷ c.items → items_of (set (set bs g n) h m) ≡ items_of bs
    passed x e l last first =
        rw e (kept bs g b c n m (omega arith) is (rw e at there)
        (cc (append_assoc n.items (x ∷ []) c.items)))

    -- the first item of a block goes to the end of the one before
    pub drawn : (x : X) → g ≡ suc h → g < length bs → b.items ≡ x ∷ n.items
        → m.items ≡ c.items ++ x ∷ [] → items_of (set (set bs g n) h m) ≡ items_of bs
    drawn x e l first last =
        rw (e, set_comm bs (suc h) h n m (λ e. omega (arith, e)))
        (kept bs h c b m n (omega arith) there (rw e at is)
        (cc (append_assoc c.items (x ∷ []) n.items)))

    -- an item that moves leaves a gap, and fills the one before
    pub short_moved : (len : ℕ) → IsShort bs len h → g < length bs → g ≢ h → deque_len n + 1
        ≡ deque_len b → deque_len m ≡ deque_len c + 1 → deque_capacity n ≡ deque_capacity b
        → deque_capacity m ≡ deque_capacity c → IsShort (set (set bs g n) h m) len g
    short_moved len s l apart less more same still =
        record {
          roomy = λ i d k. grind (sets, cases_eq i g, cases_eq i h, s.roomy, s.inside);
          inside = grind sets;
          gap = λ d. grind (sets, s.filled g b, s.inside);
          filled = λ i d k ne. grind (sets, cases_eq i h, s.filled i d, s.gap c, s.inside);
          within = grind (sets, s.within);
          few = grind (sets, s.few);
        }

  -- an item that is taken out of a block leaves a gap there
  pub tiled_gap : (bs : List (VecDeque X Z)) (len i : ℕ) (b n : VecDeque X Z) → IsTiled bs len
      → i < length bs → b ≡ get_or bs i b → deque_len n + 1 ≡ deque_len b
      → deque_capacity n ≡ deque_capacity b → IsShort (set bs i n) len i
  tiled_gap bs len i b n t l is less same =
      record {
        roomy = λ j d k. grind (sets, cases_eq i j, t.roomy);
        inside = grind sets;
        gap = λ d. grind (sets, t.filled i b);
        filled = λ j d k ne. grind (sets, t.filled j d);
        within = grind (sets, t.within);
        few = grind (sets, t.few);
      }

  -- ---- a block that lacks an item

  module _ {bs : List (VecDeque X Z)} {len : ℕ} (place : ℕ) (s : IsShort bs (len + 1) (place / 128))
      (p : place ≤ len) (b : VecDeque X Z) (is : b ≡ get_or bs (place / 128) b) where
    filled : deque_len b + 1 ≡ share (len + 1) (place / 128)
    filled = ap (λ (x : VecDeque X Z). deque_len x + 1) is ∙ s.gap b

    pub gap_offset : place % 128 ≤ deque_len b
    gap_offset = omega (arith, filled)

    pub gap_room : deque_len b < deque_capacity b
    gap_room = grind (arith, filled, s.roomy (place / 128) b s.inside)

    pub inserted_at : (n : VecDeque X Z) (x : X) → n.items ≡ insert b.items (place % 128) x
        → items_of (set bs (place / 128) n) ≡ insert (items_of bs) place x
    inserted_at n x =
        inserted_in bs place (place / 128) (place % 128) (omega arith) b
        (block bs (len + 1) (place / 128) b s.inside is (omega arith)
        (λ j d k. s.filled j d (omega (arith, s.inside)) (λ e. omega (arith, e))))
        n x (omega (arith, gap_offset, b.ok.0))

  -- ---- one more block

  pub items_more : (bs : List (VecDeque X Z)) (n : VecDeque X Z) → n.items ≡ []
      → items_of (bs ++ n ∷ []) ≡ items_of bs
  items_more bs n e = cc (flat_map-append (λ b. b.items) bs (n ∷ []), append-nil (items_of bs))

  pub tiled_more : (bs : List (VecDeque X Z)) (len : ℕ) (n : VecDeque X Z) → IsTiled bs len
      → length bs ≢ 2 ^ 56 → deque_len n ≡ 0 → 128 ≤ deque_capacity n → IsTiled (bs ++ n ∷ []) len
  tiled_more bs len n t few none roomy =
      let more = length_push bs n in
      record {
        roomy = λ j d k. grind (arith, get_or_push, get_or_append_left, t.roomy j d);
        filled = λ j d k. grind (arith, get_or_push, get_or_append_left, t.filled j d);
        within = omega (arith, more, t.within);
        few = omega (arith, more, t.few, few);
      }
