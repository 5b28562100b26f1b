-- What takes us off every channel leaves nobody known.
use Rattle.std.specs.FinMap as fin
use Rattle.net_view.proofs.{AfterMaps.channels_are, StepLaw.view_step, Words.{◌++◌, ◌∷◌, ◌≡◌}}
use Rattle.net_view.proofs.Words.{Arrival, Bool, Channel, List, Lost, Person, Standing, Text, Told}
use Rattle.net_view.proofs.Words.{View, [], after, after_told, arith, bytes_cmp, empty_view, ends}
use Rattle.net_view.proofs.Words.{is_us, people_after, standing_after, standing_of, table, told}
use Rattle.net_view.{proofs.Words.{true, view_of}, specs.View.lost_view}
use Rattle.std.proofs.lemmas.List.{nil_from_length}

pub no_keys : fin.keys (fin.empty {X = Channel} {R = bytes_cmp}) ≡ []
no_keys = grind (arith, fin.len-empty bytes_cmp Channel, fin.len-entries, nil_from_length)

-- if there is no channel nobody is known
pub no_people : (us : Text → Bool) (t : Told) (old : fin.FinMap bytes_cmp Person)
    → people_after us t fin.empty old ≡ fin.empty
unfolding table
no_people us t old = simp no_keys

-- a view with nothing but the standing left
abbrev pub alone : Standing → View
alone s = record empty_view { own = s.own; ready = s.ready; settings = s.settings }

pub emptied : (v : View) (t : Told) → ((c : Text) → ends (is_us (standing_of v)) t c ≡ true)
    → after_told v t ≡ alone (standing_after t (standing_of v))
emptied v t off =
    let cs = channels_are (is_us (standing_of v)) t v.channels fin.empty
    (λ c. grind (arith, off c, fin.get-empty)) in
    simp (cs, no_people)

pub view_lost : (items : List Arrival) → view_of (items ++ Lost ∷ []) ≡ lost_view (view_of items)
unfolding after told
view_lost items = simp (view_step, emptied)
