-- The messages that are kept would all be kept if they came again.
use Rattle.history.proofs.Words
use Words.{◌++◌, ◌+◌, ◌<◌, ◌∷◌, ◌≡◌, ◌≤◌, AllByRecursion, Bool, EntryParts, List, Option, [], ap}
use Words.{arith, false, filter-append, keys_of, length, length-map, nat_cmp, nat_lt, rings_of, sym}
use Words.{target_key, true, ℕ}
use Rattle.history.proofs.Apart.{AreEach, AreFew, each_before, few_before, staying}
use Rattle.history.proofs.{OneMore.Rises, Rings.{few_each, rises_from}}
use Rattle.history.specs.Messages.{AllStay, CanComeAgain, IsTied, RiseFrom, is_with_person, kept_with}
use Rattle.history.specs.{Messages.rings_with, Retained.of_kind, Rings.Rings}
use Rattle.std.proofs.Common.{append_assoc, lt-ltb, subst}
use Rattle.std.specs.List.Sorted.{IsStrictlySortedBy}

abbrev Kept : Type 0
Kept = List (ℕ × EntryParts)

-- ---- numbers

higher : (n : ℕ) (ms : Kept) → AllByRecursion (λ m. n < m.0) ms
    → AllByRecursion (λ m. n + 1 ≤ m.0) ms
higher n [] all = tt
higher n (m ∷ ms) all =
    let lt : n < m.0 = all.0 in (omega (arith, lt), higher n ms all.1)

rise_on : (n : ℕ) (ms : Kept) → AllByRecursion (λ m. n ≤ m.0) ms → Rises ms → RiseFrom n ms
rise_on n [] all r = tt
rise_on n (m ∷ ms) all r = (all.0, rise_on (m.0 + 1) ms (higher m.0 ms r.0) r.1)

from_none : (ms : Kept) → AllByRecursion (λ m. 0 ≤ m.0) ms
from_none [] = tt
from_none (m ∷ ms) = (omega arith, from_none ms)

-- ---- one message, and all

all_front : (P : ℕ × EntryParts → Type 0) (l ms : Kept) → AllByRecursion P (l ++ ms)
    → AllByRecursion P l
all_front P [] ms all = tt
all_front P (m ∷ l) ms all = (all.0, all_front P l ms all.1)

rises_front : (l ms : Kept) → Rises (l ++ ms) → Rises l
rises_front [] ms r = tt
rises_front (m ∷ l) ms r = (all_front (λ b. m.0 < b.0) l ms r.0, rises_front l ms r.1)

few_front : (b : Bool) (l ms : Kept) → AreFew (kept_with b (l ++ ms)) → AreFew (kept_with b l)
few_front b l ms few =
    few_before (kept_with b l) (kept_with b ms)
    (rw (← filter-append (of_kind is_with_person b) l ms) few)

each_front : (n : ℕ) (b : Bool) (l ms : Kept) → AreEach n (kept_with b (l ++ ms))
    → AreEach n (kept_with b l)
each_front n b l ms each =
    each_before n (kept_with b l) (kept_with b ms)
    (rw (← filter-append (of_kind is_with_person b) l ms) each)

stay_on : (n : ℕ) (l ms : Kept) → nat_lt 0 n ≡ true → Rises (l ++ ms)
    → ((b : Bool) → AreFew (kept_with b (l ++ ms)))
    → ((b : Bool) → AreEach n (kept_with b (l ++ ms))) → AllStay n l ms
stay_on n l [] some rise few each = tt
stay_on n l (m ∷ ms) some rise few each =
    let now = l ++ m ∷ [] in
    let grouped : now ++ ms ≡ l ++ (m ∷ ms) = append_assoc l (m ∷ []) ms in
    let rise_now = subst Rises (sym grouped) rise in
    let few_now = subst (λ (k : Kept). (b : Bool) → AreFew (kept_with b k)) (sym grouped) few in
    let each_now = subst (λ (k : Kept). (b : Bool) → AreEach n (kept_with b k)) (sym grouped) each in (
      staying n now some (rises_front now ms rise_now) (λ b. few_front b now ms (few_now b))
          (λ b. each_front n b now ms (each_now b)),
      stay_on n now ms some rise_now few_now each_now,
    )

-- the rings of one kind
module _ (b : Bool) (capacity : ℕ) (kept : Kept) (t : Rings) (is : t ≡ rings_with b capacity kept)
  where
    rings_are : t.rings ≡ rings_of target_key (kept_with b kept)
    rings_are = ap (λ (r : Rings). r.rings) is

    few_are : length t.rings ≤ 128 → AreFew (kept_with b kept)
    few_are few = grind (arith, few, rings_are, length-map)

    each_are : AllByRecursion (λ (r : List ℕ × List ℕ). length r.1 ≤ t.capacity) t.rings
        → AreEach capacity (kept_with b kept)
    each_are each =
        let size : t.capacity ≡ capacity = ap (λ (r : Rings). r.capacity) is in
        few_each target_key capacity (kept_with b kept) (rw (← rings_are, ← size) each)

both : (P : Bool → Type 0) → P false → P true → (b : Bool) → P b
both P one other false = one
both P one other true = other

pub can_again : (capacity : ℕ) (kept : Kept) (next : Option ℕ) (t persons : Rings)
    → IsTied capacity kept next t persons → IsStrictlySortedBy nat_cmp (keys_of kept)
    → length t.rings ≤ 128
    → AllByRecursion (λ (r : List ℕ × List ℕ). length r.1 ≤ t.capacity) t.rings
    → length persons.rings ≤ 128
    → AllByRecursion (λ (r : List ℕ × List ℕ). length r.1 ≤ persons.capacity) persons.rings
    → CanComeAgain (record { capacity = capacity; kept = kept; next = next })
can_again capacity kept next t persons tied sorted few each few_persons each_persons =
    let rise = rises_from kept sorted in
    record {
      rise = rise_on 0 kept (from_none kept) rise;
      below = tied.below;
      stay = stay_on capacity [] kept (lt-ltb 0 capacity tied.some) rise
          (both (λ b. AreFew (kept_with b kept)) (few_are false capacity kept t tied.others few)
          (few_are true capacity kept persons tied.persons few_persons))
          (both (λ b. AreEach capacity (kept_with b kept)) (each_are false capacity kept t tied.others each)
          (each_are true capacity kept persons tied.persons each_persons));
    }
