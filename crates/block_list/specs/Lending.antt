-- What a list ends as, once a `&mut` into it has ended.
use Rattle.std.specs.Prelude.{ℕ, slice_set}
use Rattle.std.specs.Borrow.{Fml, RattleType, MutBor, Lends}
use Rattle.std.specs.declared.alloc.Allocator.{Ghosts}
use Rattle.block_list.specs.Blocks.{Shelf}
use Rattle.block_list.specs.contracts.blocks.Blocks.{the_row}

-- the item at a place is the last value written through r
abbrev pub lends_item : (R A : RattleType) (g : Ghosts A.Denot) → MutBor (Shelf R.Denot) → ℕ →
    MutBor R.Denot → Fml
lends_item R A g s i r =
    Lends (the_row R A g) R s r
    (λ w. record { items = slice_set s.now.items i w; spare = s.now.spare })
