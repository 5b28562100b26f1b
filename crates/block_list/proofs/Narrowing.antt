-- What a binary search has found so far.
use Rattle.block_list.proofs.Words
use Words.{◌+◌, ◌<◌, ◌∙◌, ◌≡◌, ◌≤◌, ◌⊎◌, HoldsAt, List, ap, arith, inl, inr, length, refl, subst}
use Words.{sym, ℕ}
use Rattle.std.{proofs.Common.Err, specs.List.{AllWithin, Sorted.IsBinarySearchResult}}
use Rattle.std.specs.{List.Sorted.IsNonDecreasingBy, Ordering.{is_gt, ordering_index}}
use Rattle.std.specs.{Prelude.{false, true}, declared.cmp.Ordering.{Ordering, TheVariants.Greater}}
use Rattle.std.specs.declared.cmp.Ordering.TheVariants.{Less}

top : (o : Ordering) → 2 ≤ ordering_index o → o ≡ Greater
top o h = grind arith

module _ {X : Type 0} (ord : X → Ordering) (xs : List X) where
  -- what is looked for is not before low, and before high
  pub record Narrowed (low high : ℕ) : Type 0 where
    pub below : (low ≡ 0) ⊎ HoldsAt (λ y. is_gt (ord y) ≡ false) xs low
    pub above : IsNonDecreasingBy (λ y. ordering_index (ord y)) xs
        → AllWithin (λ y. ord y ≡ Greater) xs high (length xs)

  from_Greater : (place : ℕ) → HoldsAt (λ y. ord y ≡ Greater) xs place
      → IsNonDecreasingBy (λ y. ordering_index (ord y)) xs
      → AllWithin (λ y. ord y ≡ Greater) xs place (length xs)
  from_Greater place at up k d a b =
      let rises = up place k d a b in
      let here = ap ordering_index (at d) in
      top _ (omega (arith, rises, here))

-- what is known of each order that a closure follows, by its answers at items
module _ {X : Type 0} (answers : X → Ordering → Type 0) (xs : List X) where
  abbrev pub Follows : (X → Ordering) → Type 0
  Follows ord = (item : X) (answer : Ordering) → answers item answer → answer ≡ ord item

  abbrev pub Found : ℕ → ℕ → Type 0
  Found low high = (ord : X → Ordering) → Follows ord → Narrowed ord xs low high

  -- its answer at the item of a place
  pub record Answered (place : ℕ) (o : Ordering) : Type 0 where
    pub item : X
    pub at : HoldsAt (λ y. y ≡ item) xs place
    pub said : answers item o

  pub all_ahead : (high : ℕ) → length xs ≤ high → Found 0 high
  all_ahead high l ord f =
      record { below = inl refl; above = λ up k d a b. absurd (omega arith) }

  pub answered : (place : ℕ) {o : Ordering} → Answered place o → (ord : X → Ordering)
      → Follows ord → HoldsAt (λ y. ord y ≡ o) xs place
  answered place a ord f d = ap ord (a.at d) ∙ sym (f _ _ a.said)

module _ {X : Type 0} {answers : X → Ordering → Type 0} {xs : List X} where
  module _ {low high : ℕ} (found : Found answers xs low high) where
    pub moved : (start new : ℕ) → start ≡ low
        → ((k : ℕ) → new ≤ k → k < length xs → high ≤ k) → Found answers xs start new
    moved start new e h ord f =
        let n = found ord f in
        subst (λ k. Narrowed ord xs k new) (sym e)
        (record { below = n.below; above = λ up k d a b. n.above up k d (h k a b) b })

    pub lower : {place : ℕ} {o : Ordering} → Answered answers xs place o → true ≡ is_gt o
        → Found answers xs low place
    lower {place} {o} a e ord f = record {
      below = (found ord f).below;
      above =
          from_Greater ord xs place (λ d. answered answers xs _ a ord f d ∙ (grind arith));
    }

    pub upper : {place : ℕ} {o : Ordering} (new : ℕ) → Answered answers xs place o
        → false ≡ is_gt o → high ≡ new → Found answers xs place new
    upper new a e same ord f = record {
      below = inr (λ d. ap is_gt (answered answers xs _ a ord f d) ∙ sym e);
      above = λ up k d a b. (found ord f).above up k d (omega arith) b;
    }

    pub ended : Answered answers xs low Less → high ≤ low + 1 → low < length xs
        → (ord : X → Ordering) → Follows answers xs ord
        → IsBinarySearchResult ord xs (Err (low + 1))
    ended a one in' ord f up = (
      λ k d a0 b.
          let rises = up k low d (omega arith) in' in
          let here = ap ordering_index (answered answers xs _ a ord f d) in
          (grind arith),
      λ k d a b. (found ord f).above up k d (omega arith) b,
    )

    pub missed : Answered answers xs low Greater → (ord : X → Ordering) → Follows answers xs ord
        → IsBinarySearchResult ord xs (Err low)
    missed a ord f up = (
      λ k d a0 b. elim (found ord f).below [
        | inl z ↦ absurd (omega arith)
        | inr q ↦ (let t = sym (ap is_gt (answered answers xs _ a ord f d)) ∙ q d in absurd cc)
      ],
      from_Greater ord xs low (answered answers xs _ a ord f) up,
    )
