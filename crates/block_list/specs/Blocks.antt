-- A list in blocks, each full before the next one begins.
use Rattle.std.specs.Prelude.{◌≡◌, ◌≢◌, ℕ, ◌+◌, ◌*◌, ◌-◌, ◌^◌, ◌<◌, ◌≤◌, min, List, length}
use Rattle.std.specs.Coded.{Coded, code_by, coded×, coded_ℕ, coded_list}
use Rattle.std.specs.List.{flat_map}
use Rattle.std.specs.VecDeque.{deque_len, deque_capacity}
use Rattle.std.specs.declared.collections.VecDeque.{VecDeque}
use Rattle.std.proofs.Common.{refl, get_or}

-- the items, and for how many more there is room
pub record Shelf (X : Type 0) : Type 0 where
  pub items : List X
  pub spare : ℕ

abbrev pub shelf_code : {X : Type 0} → Coded X → Coded (Shelf X)
shelf_code {X} x =
    code_by (List X × ℕ) (coded× (coded_list x) coded_ℕ) (λ s. (s.items, s.spare))
    (λ p. record { items = p.0; spare = p.1 }) (λ _. refl)

-- how many of this many items are in the block at a place
abbrev pub share : ℕ → ℕ → ℕ
share len i = min 128 (len - i * 128)

module _ {X Z : Type 0} where
  -- the items of blocks, one block after another
  abbrev pub items_of : List (VecDeque X Z) → List X
  items_of blocks = flat_map (λ b. b.items) blocks

  abbrev pub shelf : List (VecDeque X Z) → ℕ → Shelf X
  shelf blocks len = record { items = items_of blocks; spare = length blocks * 128 - len }

  -- each block has room for 128 items
  abbrev pub AreRoomy : List (VecDeque X Z) → Type 0
  AreRoomy blocks =
      (i : ℕ) (d : VecDeque X Z) → i < length blocks → 128 ≤ deque_capacity (get_or blocks i d)

  -- blocks of this many items, each full before the next one begins
  pub record IsTiled (blocks : List (VecDeque X Z)) (len : ℕ) : Type 0 where
    pub roomy : AreRoomy blocks
    pub filled : (i : ℕ) (d : VecDeque X Z) → i < length blocks →
        deque_len (get_or blocks i d) ≡ share len i
    pub within : len ≤ length blocks * 128
    pub few : length blocks ≤ 2 ^ 56

  -- the same, except for one item that is missing in the block at a place
  pub record IsShort (blocks : List (VecDeque X Z)) (len hole : ℕ) : Type 0 where
    pub roomy : AreRoomy blocks
    pub inside : hole < length blocks
    pub gap : (d : VecDeque X Z) → deque_len (get_or blocks hole d) + 1 ≡ share len hole
    pub filled : (i : ℕ) (d : VecDeque X Z) → i < length blocks → i ≢ hole →
        deque_len (get_or blocks i d) ≡ share len i
    pub within : len ≤ length blocks * 128
    pub few : length blocks ≤ 2 ^ 56
