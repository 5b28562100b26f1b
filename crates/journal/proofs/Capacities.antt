-- What a history of another capacity retains.
use Rattle.std.proofs.Common.{◌≡◌, ◌∙◌, ◌≤◌, ◌<◌, ◌+◌, ◌++◌, arith, ℕ, Bool, List, [], ◌∷◌, true}
use Rattle.std.proofs.Common.{refl, sym, ap, inl, inr, append-nil, append_assoc, filter, length}
use Rattle.std.proofs.Common.{reverse, subst}
use Rattle.std.proofs.lemmas.Bool.Decides.{nat_tests}
use Rattle.std.specs.List.{AllByRecursion}
use Rattle.irc_line.proofs.Logic.{cases_Bool}
use Rattle.history.proofs.Apart.{retained_more, rises_more}
use Rattle.history.proofs.OneMore.{Rises}
use Rattle.std.proofs.SliceLists.{all_by_recursion_push}
use Rattle.history.specs.Entry.{EntryParts}
use Rattle.history.specs.Messages.{AllStay, CanComeAgain, Messages, RiseFrom, is_with_person}
use Rattle.history.specs.Messages.{retained_of, staying_of, target_key, target_limit}
use Rattle.history.specs.Retained.{looking_back_apart, of_kind, stays}
use Rattle.journal.specs.Snapshots.{in_capacity}

abbrev pub Numbered : Type 0
Numbered = List (ℕ × EntryParts)

abbrev pub kept_of : ℕ → Numbered → Numbered
kept_of capacity ms = retained_of capacity ms

-- ---- numbers that rise

abbrev pub AreBelow : ℕ → Numbered → Type 0
AreBelow n ms = AllByRecursion (λ m. m.0 < n) ms

pub lower : (first last : ℕ) → first ≤ last → (ms : Numbered) → AreBelow first ms
    → AreBelow last ms
lower first last le [] all = tt
lower first last le (m ∷ ms) all = (omega (arith, all.0), lower first last le ms all.1)

-- messages in order, and one more
pub one_above : (n : ℕ) (m : ℕ × EntryParts) (ms : Numbered) → n ≤ m.0 → Rises ms
    → AreBelow n ms → Rises (ms ++ m ∷ []) × AreBelow (m.0 + 1) (ms ++ m ∷ [])
one_above n m ms le rise below = (
  rises_more ms m rise (lower n m.0 le ms below),
  all_by_recursion_push (λ x. x.0 < m.0 + 1) ms m
      (lower n (m.0 + 1) (omega (arith, le)) ms below) (omega arith),
)

pub one_more : (capacity n : ℕ) (m : ℕ × EntryParts) (ms : Numbered) → n ≤ m.0 → Rises ms
    → AreBelow n ms
    → staying_of capacity (kept_of capacity ms ++ m ∷ []) ≡ kept_of capacity (ms ++ m ∷ [])
one_more capacity n m ms le rise below =
    retained_more capacity m ms rise (lower n m.0 le ms below)

-- ---- a larger capacity

module _ {X : Type 0} (key : X → List ℕ) (kind : X → Bool) where
  -- of what came after a message, those of its kind
  abbrev behind : X → List X → List X
  behind m later = filter (of_kind kind (kind m)) (reverse later)

  shorter : (test : List ℕ → List X → Bool) (ms : List X)
      → length (looking_back_apart key kind test ms) ≤ length ms
  shorter test [] = omega arith
  shorter test (m ∷ ms) = grind (arith, shorter test ms)

  tail_is : (m : X) (xs ys : List X) → m ∷ xs ≡ m ∷ ys → xs ≡ ys
  tail_is m xs ys e = cc

  -- if all pass, all pass a weaker test
  all_pass : (test weaker : List ℕ → List X → Bool)
      → ((k : List ℕ) (back : List X) → test k back ≡ true → weaker k back ≡ true)
      → (ms : List X) → looking_back_apart key kind test ms ≡ ms
      → looking_back_apart key kind weaker ms ≡ ms
  all_pass test weaker more [] all = refl
  all_pass test weaker more (m ∷ ms) all = elim (cases_Bool (test (key m) (behind m ms))) [
    | inl passes ↦
        let rest : looking_back_apart key kind test ms ≡ ms =
        tail_is m (looking_back_apart key kind test ms) ms (rw passes at all) in
        rw (more (key m) (behind m ms) passes)
        (ap (λ (l : List X). m ∷ l) (all_pass test weaker more ms rest))
    | inr fails ↦
        let gone : looking_back_apart key kind test ms ≡ m ∷ ms = rw fails at all in
        let count : length (looking_back_apart key kind test ms) ≡ length (m ∷ ms) =
        ap length gone in
        absurd (omega (arith, count, shorter test ms))
  ]

  stays_in_more : (most n more : ℕ) → n ≤ more → (k : List ℕ) (back : List X)
      → stays key most n k back ≡ true → stays key most more k back ≡ true
  stays_in_more most n more le k back h = grind (arith, nat_tests, le, h)

all_stay : (n more : ℕ) → n ≤ more → (done ms : Numbered) → AllStay n done ms
    → AllStay more done ms
all_stay n more le done [] stay = tt
all_stay n more le done (m ∷ ms) stay = (
  all_pass target_key is_with_person (stays target_key target_limit n)
      (stays target_key target_limit more)
      (stays_in_more target_key is_with_person target_limit n more le) (done ++ m ∷ []) stay.0,
  all_stay n more le (done ++ m ∷ []) ms stay.1,
)

all_kept : (n first : ℕ) (done ms : Numbered) → Rises done → AreBelow first done
    → RiseFrom first ms → AllStay n done ms → kept_of n done ≡ done
    → kept_of n (done ++ ms) ≡ done ++ ms
all_kept n first done [] order below rise stay same = rw (append-nil done) same
all_kept n first done (m ∷ ms) order below rise stay same =
    let more = one_above first m done rise.0 order below in
    let now : kept_of n (done ++ m ∷ []) ≡ done ++ m ∷ [] =
    sym (one_more n first m done rise.0 order below)
    ∙ ap (λ (l : Numbered). staying_of n (l ++ m ∷ [])) same ∙ stay.0 in
    subst (λ (l : Numbered). kept_of n l ≡ l) (append_assoc done (m ∷ []) ms)
    (all_kept n (m.0 + 1) (done ++ m ∷ []) ms more.0 more.1 rise.1 stay.1 now)

pub all_fit : (h : Messages) → CanComeAgain h → (capacity : ℕ) → h.capacity ≤ capacity
    → in_capacity capacity h ≡ record h { capacity = capacity }
all_fit h again capacity le =
    ap (λ (l : Numbered). record { capacity = capacity; kept = l; next = h.next })
    (all_kept capacity 0 [] h.kept tt tt again.rise
    (all_stay h.capacity capacity le [] h.kept again.stay) refl)
