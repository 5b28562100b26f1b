use Rattle.irc_support.proofs.pending.remove.Goals as goal
use Rattle.{irc_support.proofs.PendingTokens.{kept-entries, kept-none}, std.specs.List.SwappedAt}
use Rattle.irc_support.{proofs.pending.remove.Goals.{else-stays, then-stays}, specs.Edits.tokens_in}
use Rattle.std.proofs.Common.{◌<◌, MatchOption, get_or, inl, inr, length, refl, slice_get, swap}
use Rattle.std.proofs.Common.{◌≡◌, ◌≤◌, Bool, List, arith, false, sym, true, ℕ}
use Rattle.std.proofs.lemmas.List.{get_or-set_other, get_or-set_same, length-set, Edits.swap_is}
use Rattle.std.proofs.lemmas.{List.Filters.FiltersInPlace-all, Option.slice_get_cases}
use Rattle.std.proofs.lemmas.List.Filters.{FiltersInPlace-more_no, FiltersInPlace-more_swap}

swapped : {X : Type 0} (es : List X) (w p : ℕ) → w < length es → p < length es →
    SwappedAt es (swap es w p) w p
swapped es w p first second =
    grind (arith, swap_is es w p, get_or-set_same, get_or-set_other, length-set, first, second)

next : {X : Type 0} (test : X → Bool) (es : List X) (p : ℕ) → p < length es → (b : Bool) →
    MatchOption (slice_get es p) (b ≡ false) (λ x. b ≡ test x) →
    (x : X) × (x ≡ get_or es p x) × (test x ≡ b)
next test es p within b says = elim (slice_get_cases es p).1 [
  | inl found ↦ (found.0, sym found.3, sym (rw found.2 at says))
  | inr past ↦ absurd (omega arith)
]

pub returns-then-is_empty-clause-entries : goal.returns-then-is_empty-clause-entries
returns-then-is_empty-clause-entries g c =
    let none : length c.args.names.now.keys ≡ 0 = c.if-is_empty.ensures.0 refl in
    sym (kept-none c.args.names.now.keys none (tokens_in c.args.tokens.now.entries))

pub loop-place-preserved : goal.loop-place-preserved
loop-place-preserved g c =
    let so = c.loop-place.invariant.1 in
    let within : c.loop-place.place < length c.loop-place.tokens.entries =
    rw (so.long, ← c.len-place-end.ensures.len) c.loop-place-test.true in
    elim c.if-stays.branch [
      | then-stays w ↦
          let at = next _ _ _ within true (rw w.if-stays.true at c.stays.ensures) in
          let room = w.swap_indices.ensures.room.0 in
          let before = c.loop-place.invariant.0 in
          rw (w.tokens-is, w.kept-is, w.swap_indices.ensures.entries) (
            omega arith,
            FiltersInPlace-more_swap so within at.2 at.1
                (swapped _ _ _ (omega (arith, so.behind)) within),
          )
      | else-stays w ↦
          let at = next _ _ _ within false (rw w.if-stays.false at c.stays.ensures) in
          rw (w.tokens-is, w.kept-is)
          (c.loop-place.invariant.0, FiltersInPlace-more_no so within at.2 at.1)
    ]

pub returns-clause-entries : goal.returns-clause-entries
returns-clause-entries g c =
    let past : length c.args.tokens.now.entries ≤ c.loop-place.place =
    rw c.len-place-end.ensures.len at c.loop-place-test.false in
    rw (c.truncate.ensures.entries, FiltersInPlace-all c.loop-place.invariant.1 past)
    (kept-entries c.args.names.now.keys c.args.tokens.now.entries)
