-- A piece of the network's bytes, and its two halves.
use Rattle.hub_runs.specs.declared.event.Event.TheVariants as on
use Rattle.client_caps.specs.declared.moment.Moment.{Moment}
use Rattle.hub_ends.specs.Came.{Came}
use Rattle.hub_runs.specs.Course.{Deed, Took, with_items}
use Rattle.hub_runs.specs.Replies.{Limits, answer_to, deeds_behind, deeds_of, with_event}
use Rattle.hub_runs.specs.Worlds.{lines_at, rest_behind}
use Rattle.hub_runs.specs.declared.event.Event.{Event}
use Rattle.irc_line.{proofs.Pieces.{lines-append, rest-append}, specs.Lines.rest_of}
use Rattle.std.proofs.Common.{◌++◌, ◌∷◌, ◌≡◌, List, [], ap, append_assoc, arith, refl, ◌∙◌, ℕ}
use Rattle.std.proofs.lemmas.List.{map-append}
use Rattle.std.specs.Prelude.{Vec}
use Rattle.std.specs.declared.alloc.Global.{Global}

with_items-append : (ds : List Deed) (xs ys : List Came)
    → with_items ds (xs ++ ys) ≡ with_items (with_items ds xs) ys
with_items-append ds [] ys = refl
with_items-append ds (x ∷ xs) ys = with_items-append (Took x ∷ ds) xs ys

same_behind : (l : Limits) (ds es : List Deed) (r s : List ℕ) (later : List Event) → ds ≡ es
    → r ≡ s → deeds_behind l ds r later ≡ deeds_behind l es s later
same_behind l ds es r s later same rest = cc

module _ (l : Limits) (whole left right : Vec ℕ Global) (moment : Moment)
    (halves : whole.items ≡ left.items ++ right.items) where
  rests : (rest : List ℕ) → rest_of (rest ++ whole.items)
      ≡ rest_of (rest_of (rest ++ left.items) ++ right.items)
  rests rest = grind (arith, halves, append_assoc, rest-append (rest ++ left.items) right.items)

  lines : (rest : List ℕ) → lines_at (rest ++ whole.items) moment.0
      ≡ lines_at (rest ++ left.items) moment.0
      ++ lines_at (rest_of (rest ++ left.items) ++ right.items) moment.0
  lines rest =
      grind (arith, halves, append_assoc, lines-append (rest ++ left.items) right.items, map-append)

  behind : (ds : List Deed) (rest : List ℕ) (before later : List Event)
      → deeds_behind l ds rest (before ++ on.Up whole moment ∷ later)
      ≡ deeds_behind l ds rest (before ++ on.Up left moment ∷ on.Up right moment ∷ later)
  behind ds rest [] later =
      same_behind l _ _ _ _ later (ap (with_items ds) (lines rest) ∙ with_items-append ds
      (lines_at (rest ++ left.items) moment.0)
      (lines_at (rest_of (rest ++ left.items) ++ right.items) moment.0)) (rests rest)
  behind ds rest (e ∷ es) later =
      behind (with_event l.before.profile.keeping ds rest e (answer_to l ds rest e)) (rest_behind rest e) es later

pub two_halves : (l : Limits) (before later : List Event) (whole left right : Vec ℕ Global)
    (moment : Moment) → whole.items ≡ left.items ++ right.items
    → deeds_of l (before ++ on.Up whole moment ∷ later)
    ≡ deeds_of l (before ++ on.Up left moment ∷ on.Up right moment ∷ later)
two_halves l before later whole left right moment halves =
    behind l whole left right moment halves [] [] before later
