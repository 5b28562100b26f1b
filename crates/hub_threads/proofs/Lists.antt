-- Lists of what was sent.
use Rattle.hub_threads.specs.Queues.{closed_in, closing, ended_by, is_nil, packets_in}
use Rattle.hub_threads.specs.declared.queued.Queued.{Queued, TheVariants.{Closing, Lines}}
use Rattle.{irc_line.specs.{Line.Parts, Lines.counted}, std.proofs.Common.{Bool, List, None, Option, Some}}
use Rattle.std.proofs.Common.{[], append-nil, arith, cond, false, is_some, length, map, refl, ℕ}
use Rattle.std.proofs.{Common.{◌++◌, ◌<◌, ◌∷◌, ◌≡◌}, lemmas.List.{length-map, map-append}}

pub packets_in_lines : (xs : List Queued) (p : List Parts)
    → packets_in (xs ++ Lines p ∷ []) ≡ packets_in xs ++ p ∷ []
packets_in_lines [] p = refl
packets_in_lines (x ∷ xs) p = grind (arith, packets_in_lines xs p)

pub packets_in_closing : (xs : List Queued) (id count : ℕ)
    → packets_in (xs ++ Closing id count ∷ []) ≡ packets_in xs
packets_in_closing [] id count = refl
packets_in_closing (x ∷ xs) id count = grind (arith, packets_in_closing xs id count)

open_list : (xs : List Queued) (closed : Option ℕ) → is_some closed ≡ false
    → xs ≡ ended_by (packets_in xs) closed → xs ≡ map Lines (packets_in xs)
open_list xs closed still e = grind (arith, append-nil)

pub one_more : (xs ys : List Queued) (closed : Option ℕ) (p : List Parts) → is_some closed ≡ false
    → xs ≡ ended_by (packets_in xs) closed
    → ys ≡ xs ++ Lines p ∷ [] → ys ≡ ended_by (packets_in ys) closed
one_more xs ys closed p still all e =
    let front = open_list xs closed still all in
    let more = map-append Lines (packets_in xs) (p ∷ []) in
    grind (arith, append-nil, packets_in_lines xs p, more)

pub at_end : (xs ys : List Queued) (closed : Option ℕ) (id count : ℕ) → is_some closed ≡ false → xs
    ≡ ended_by (packets_in xs) closed → count ≡ counted (length xs) → ys
    ≡ xs ++ Closing id count ∷ [] → ys ≡ ended_by (packets_in ys) (Some id)
at_end xs ys closed id count still all is e =
    let front = open_list xs closed still all in
    let long = length-map (packets_in xs) Lines in
    grind (arith, packets_in_closing xs id count, long)

not_nil : (ps : List (List Parts)) (p : List Parts) → is_nil (ps ++ p ∷ []) ≡ false
not_nil [] p = refl
not_nil (q ∷ ps) p = refl

pub stale_now : (xs ys : List Queued) (p : List Parts) → ys ≡ xs ++ Lines p ∷ []
    → false ≡ is_nil (packets_in ys)
stale_now xs ys p e = cc (packets_in_lines xs p, not_nil (packets_in xs) p)

pub as_fresh : (xs ys : List Queued) (id count : ℕ) (fresh : Bool) → fresh ≡ is_nil (packets_in xs)
    → ys ≡ xs ++ Closing id count ∷ [] → fresh ≡ is_nil (packets_in ys)
as_fresh xs ys id count fresh f e = cc (packets_in_closing xs id count)

closed_in_list : (ps : List (List Parts)) (closed : Option ℕ) (n : ℕ)
    → closed_in (map Lines ps ++ closing closed n) ≡ closed
closed_in_list [] closed n = grind arith
closed_in_list (p ∷ ps) closed n = closed_in_list ps closed n

pub closed_is : (xs : List Queued) (closed : Option ℕ) → xs ≡ ended_by (packets_in xs) closed
    → closed ≡ closed_in xs
closed_is xs closed e = cc (closed_in_list (packets_in xs) closed (length (packets_in xs)))

pub closed_in_lines : (xs : List Queued) (p : List Parts)
    → closed_in (xs ++ Lines p ∷ []) ≡ closed_in xs
closed_in_lines [] p = refl
closed_in_lines (x ∷ xs) p = grind (arith, closed_in_lines xs p)

pub closing_told : (xs : List Queued) (id count : ℕ) → closed_in xs ≡ None
    → closed_in (xs ++ Closing id count ∷ []) ≡ Some id
closing_told [] id count none = refl
closing_told (x ∷ xs) id count none = grind (arith, closing_told xs id count)

pub told_now : (closed : Option ℕ) (xs : List Queued) (id count : ℕ) → is_some closed ≡ false
    → (closed ≡ None → closed_in xs ≡ None) → closed_in (xs ++ Closing id count ∷ []) ≡ Some id
told_now None xs id count still none = closing_told xs id count (none refl)
told_now (Some first) xs id count still none = grind arith

-- an outlet that is not full is open, and a slot is free
pub slot_free : (closed : Option ℕ) (n : ℕ) → 0 < cond (is_some closed) 0 n → 0 < n
slot_free closed n h = grind arith
