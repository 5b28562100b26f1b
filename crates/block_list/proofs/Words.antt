-- The words that most proofs speak with, passed on.
pub use Rattle.block_list.specs.Blocks.{IsShort, IsTiled, Shelf, items_of, share, shelf}
pub use Rattle.std.proofs.Common.{List, [], ap, append_assoc, arith, drop, get_or, inl, inr, length}
pub use Rattle.std.proofs.Common.{length-append, length-set, refl, rules, set, subst, suc, sym}
pub use Rattle.std.proofs.Common.{take, zero, ℕ, ◌%◌, ◌*◌, ◌++◌, ◌+◌, ◌-◌, ◌/◌, ◌<◌, ◌^◌, ◌∙◌, ◌∷◌}
pub use Rattle.std.proofs.{Common.{◌≡◌, ◌≢◌, ◌≤◌, ◌⊎◌}, lemmas.{Bool.cases_eq, Fn.says_at}}
pub use Rattle.std.proofs.lemmas.List.{get_or-set_other, get_or-set_same, length_push}
pub use Rattle.std.specs.{List.{HoldsAt, insert, remove}, VecDeque.{deque_capacity, deque_len}}
pub use Rattle.std.specs.declared.collections.VecDeque.{VecDeque}
