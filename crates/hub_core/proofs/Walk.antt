-- Walks over all sessions: from the last to the first, and one that learns how much room there is.
use Rattle.hub_core.{proofs.Running.fits_same, specs.Upkeep.{AreFreed, is_nearly_full, nearly_full}}
use Rattle.hub_core.proofs.Words.{◌++◌, ◌+◌, ◌-◌, ◌<◌, ◌∙◌, ◌∷◌, ◌≡◌, AllByRecursion, Bool}
use Rattle.hub_core.proofs.Words.{Arrival, Delivered, EachFits, List, None, Option, Parts, Sends}
use Rattle.hub_core.proofs.Words.{SessionState, [], ap, append-nil, append_assoc, arith}
use Rattle.hub_core.proofs.Words.{get_or, if◌then◌else◌, inl, inr, length, length-map, map}
use Rattle.hub_core.proofs.Words.{map-append, refl, reverse, set, sym, take, with_outlet, ℕ}
use Rattle.{hub_core.specs.Given.Full, hub_ends.specs.Outlets.FindsRoom, std.proofs.Common.suc}
use Rattle.std.proofs.{Common.zero, Math.Seq.get_or-append_seam, lemmas.List.Elements.filter-append}
use Rattle.std.proofs.{Math.Seq.set-append_seam, lemmas.{Grind.reverse_onto, List.get_or-map}}
use Rattle.std.proofs.lemmas.List.{length-reverse, map-set, nil_from_length, reverse-reverse}
use Rattle.std.{proofs.lemmas.List.{take_more_set, Edits.remove-append_right}, specs.List.remove}

module _ {S : Type 0} (state : S → SessionState) (coming : S → Option (List Parts))
    (alone : Bool) where
  -- those after the first i were dealt with; the first i are left, as they were
  pub record IsPartWay (olds now : List S) (i : ℕ) : Type 0 where
    -- the last one first
    pub left : List S
    pub behind : List S
    pub done : List S
    pub count : length left ≡ i
    pub olds_are : olds ≡ reverse left ++ behind
    pub now_are : now ≡ reverse left ++ done
    pub given : (give : SessionState → Option (List Parts))
        → AllByRecursion (λ s. coming s ≡ give (state s)) behind
        → Delivered alone give (map state behind) (map state done)
    pub cleared : AllByRecursion (λ s. coming s ≡ None) done

  pub begun : (olds : List S) (i : ℕ) → length olds ≡ i → IsPartWay olds olds i
  begun olds i long = record {
    left = reverse olds;
    behind = [];
    done = [];
    count = length-reverse olds ∙ long;
    olds_are = simp (reverse-reverse, append-nil);
    now_are = simp (reverse-reverse, append-nil);
    given = λ give all. refl;
    cleared = tt;
  }

  -- none is left
  pub all_done : (olds now : List S) (i : ℕ) → i ≡ 0 → IsPartWay olds now i
      → ((give : SessionState → Option (List Parts)) → AllByRecursion
      (λ s. coming s ≡ give (state s)) olds → Delivered alone give (map state olds) (map state now))
      × AllByRecursion (λ s. coming s ≡ None) now
  all_done olds now i none w =
      let nil = nil_from_length w.left (w.count ∙ none) in
      rw (rw nil at w.olds_are, rw nil at w.now_are) (w.given, w.cleared)

  turn : (x : S) (r ys : List S) → reverse (x ∷ r) ++ ys ≡ reverse r ++ x ∷ ys
  turn x r ys = grind (arith, reverse_onto, append_assoc {A = S})

  module _ (olds now : List S) (i : ℕ) (s t : S) (w : IsPartWay olds now i) (some : 0 < i)
      (is : s ≡ get_or now (i - 1) s) where
    -- the last one that is left
    last : (r : List S) × (w.left ≡ s ∷ r) × (length (reverse r) ≡ i - 1)
    last = of w.left w.count w.now_are where
      of : (l : List S) → length l ≡ i → now ≡ reverse l ++ w.done
          → (r : List S) × (l ≡ s ∷ r) × (length (reverse r) ≡ i - 1)
      of [] c e = absurd (omega arith)
      of (x ∷ r) c e =
          let long : length (reverse r) ≡ i - 1 = omega (arith, length-reverse r) in
          let here : s ≡ x = rw (e, turn x r w.done, ← long, get_or-append_seam) at is in
          (r, ap (λ x. x ∷ r) (sym here), long)

    -- this became of it
    on : (new done : List S) → new ≡ reverse (last.0) ++ done
        → ((give : SessionState → Option (List Parts)) → coming s ≡ give (state s)
        → Delivered alone give (map state w.behind) (map state w.done)
        → Delivered alone give (map state (s ∷ w.behind)) (map state done))
        → AllByRecursion (λ s. coming s ≡ None) done → IsPartWay olds new (i - 1)
    on new done are one clear = record {
      left = last.0;
      behind = s ∷ w.behind;
      done = done;
      count = sym (length-reverse (last.0)) ∙ last.2;
      olds_are = rw (last.1, turn) at w.olds_are;
      now_are = are;
      given = λ give all. one give all.0 (w.given give all.1);
      cleared = clear;
    }

    now_then : set now (i - 1) t ≡ reverse (last.0) ++ t ∷ w.done
    now_then = grind (arith, w.now_are, last, turn, set-append_seam (reverse (last.0)) s w.done t)

    -- it was sent what it is given
    pub goes_on : Sends alone (state s).outlet (coming s) (state t).outlet
        → state t ≡ with_outlet (state s) (state t).outlet → coming t ≡ None
        → IsPartWay olds (set now (i - 1) t) (i - 1)
    goes_on sends same clear =
        on _ (t ∷ w.done) now_then (λ give e d. inl (
          (state t).outlet,
          map state w.done,
          ap (λ x. x ∷ map state w.done) same,
          rw (← e) sends,
          d,
        )) (clear, w.cleared)

    -- what it was to be sent found no room
    pub cuts_on : Full (state s).outlet (coming s)
        → IsPartWay olds (remove (set now (i - 1) t) (i - 1)) (i - 1)
    cuts_on full =
        let none : (i - 1) - (i - 1) ≡ 0 = omega arith in
        let cut = remove-append_right _ (t ∷ w.done) _ (i - 1) (last.2) (omega arith) in
        on _ w.done (ap (λ l. remove l (i - 1)) now_then ∙ rw none at cut)
        (λ give e d. inr (rw (← e) full, d)) w.cleared

-- ---- room

pub freed_not : (alone : Bool) (ss : List SessionState) → AreFreed alone ss ss
freed_not alone [] = refl
freed_not alone (s ∷ ss) = (s.outlet, ss, grind arith, refl, freed_not alone ss)

-- one more was asked
pub freed_set : (alone : Bool) (ss ts : List SessionState) (i : ℕ) (s t : SessionState)
    → AreFreed alone ss ts → i < length ts → s ≡ get_or ts i s → t ≡ with_outlet s t.outlet
    → FindsRoom alone s.outlet t.outlet → AreFreed alone ss (set ts i t)
freed_set alone [] ts i s t all less is same found = rw all refl
freed_set alone (r ∷ ss) ts zero s t all less is same found =
    let here = rw all.3 at is in
    let both : FindsRoom alone r.outlet t.outlet = grind (arith, all.2, rw here at found) in
    let now = same ∙ ap (λ s. with_outlet s t.outlet) here in
    rw all.3 (t.outlet, all.1, both, (λ k. now k ∷ all.1), all.4)
freed_set alone (r ∷ ss) ts (suc i) s t all less is same found =
    let within : i < length all.1 = omega (arith, rw all.3 at less) in
    let rest = freed_set alone ss all.1 i s t all.4 within (rw all.3 at is) same found in
    rw all.3 (all.0, set all.1 i t, all.2, refl, rest)

-- each still knows what is to be known
pub fits_freed : (alone : Bool) (items : List Arrival) (ss ts : List SessionState)
    → AreFreed alone ss ts → EachFits items ss → EachFits items ts
fits_freed alone items [] ts e fit = rw e tt
fits_freed alone items (s ∷ ss) ts all fit = grind (arith, fits_same, fits_freed alone items ss)

module _ {S : Type 0} (state : S → SessionState) (alone : Bool) where
  pub one_more : (olds now : List S) (i : ℕ) (s t : S) → i < length now → s ≡ get_or now i s
      → state t ≡ with_outlet (state s) (state t).outlet
      → FindsRoom alone (state s).outlet (state t).outlet
      → AreFreed alone (map state olds) (map state now)
      → AreFreed alone (map state olds) (map state (set now i t))
  one_more olds now i s t less is same found all =
      let within = rw (← length-map now state) at less in
      let there = sym (get_or-map state now i s (state s) less ∙ ap state (sym is)) in
      rw map-set (freed_set alone _ _ i (state s) (state t) all within there same found)

  -- the number of one more, if it is nearly full
  pub found_more : (now : List S) (i : ℕ) (t : S) (numbers : List ℕ) (b : Bool) → i < length now
      → b ≡ is_nearly_full (state t) → numbers ≡ nearly_full (map state (take i now))
      → numbers ++ (if b then (state t).id ∷ [] else [])
      ≡ nearly_full (map state (take (i + 1) (set now i t)))
  found_more now i t numbers b less e found =
      let ids = map-append (λ (s : SessionState). s.id) in
      grind (arith, take_more_set now i t less, map-append state, filter-append, ids, found, e)
