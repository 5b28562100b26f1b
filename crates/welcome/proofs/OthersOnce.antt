-- By a profile each message is played back once.
use Rattle.std.specs.FinMap as fin
use Rattle.std.proofs.Common.{zero}
use Rattle.std.proofs.lemmas.List.Sorted.{IsPermutation-append, IsPermutation-append_comm}
use Rattle.std.proofs.lemmas.List.Sorted.{IsPermutation-append_left, IsPermutation-append_right}
use Rattle.std.proofs.lemmas.List.Sorted.{IsPermutation-filter_both, IsPermutation-refl}
use Rattle.std.proofs.lemmas.List.Sorted.{IsPermutation-trans}
use Rattle.std.specs.List.Sorted.{IsPermutation}
use Rattle.welcome.proofs.{OthersGrouped.groups_more, PlaybackWhole.{left_over, messages_of, played_once}}
use Rattle.welcome.proofs.Words
use Words.{◌++◌, ◌∷◌, Bool, Caps, EntryParts, List, Text, View, [], append-nil, append_assoc, cond, false}
use Words.{filter, flat_map, flat_map-append, position_or_len, refl, same, suc, true, ℕ}
use Rattle.welcome.specs.Arranged.{put_at}
use Rattle.welcome.specs.declared.others.Sort.TheVariants.{Channels, Persons}
use Rattle.welcome.specs.declared.playing.Playing.{Playing}
use Rattle.welcome.specs.Playing.{apart_groups, firsts, group_key, groups_by, is_of, is_private}
use Rattle.welcome.specs.Playing.{is_visiting, other_groups, others_played, played_by}

-- all of some groups
abbrev all_of : {X : Type 0} → List (List X) → List X
all_of groups = flat_map (λ group. group) groups

put_once : {X : Type 0} (place : ℕ) (x : X) (gs : List (List X))
    → IsPermutation (all_of gs ++ x ∷ []) (all_of (put_at place x gs))
put_once place x [] = IsPermutation-refl (x ∷ [])
put_once zero x (g ∷ gs) =
    rw (append_assoc g (all_of gs) (x ∷ []), append_assoc g (x ∷ []) (all_of gs))
    (IsPermutation-append_right g _ _ (IsPermutation-append_comm (all_of gs) (x ∷ [])))
put_once (suc place) x (g ∷ gs) =
    rw (append_assoc g (all_of gs) (x ∷ []))
    (IsPermutation-append_right g _ _ (put_once place x gs))

module _ (key : EntryParts → Text) where
  grown : (done es : List EntryParts) → IsPermutation done (all_of (groups_by key done))
      → IsPermutation (done ++ es) (all_of (groups_by key (done ++ es)))
  grown done [] h = rw (append-nil done) h
  grown done (e ∷ es) h =
      let next = IsPermutation-trans (done ++ e ∷ []) _ _
      (IsPermutation-append_left (e ∷ []) done (all_of (groups_by key done)) h)
      (put_once (position_or_len (same (key e)) (firsts key done)) e (groups_by key done)) in
      rw append_assoc at (grown (done ++ e ∷ []) es (rw (groups_more key done e) next))

  groups_once : (es : List EntryParts) → IsPermutation es (all_of (groups_by key es))
  groups_once es = grown [] es (IsPermutation-refl [])

module _ (v : View) where
  apart_once : (es : List EntryParts) → IsPermutation es (all_of (apart_groups v es))
  apart_once es =
      let channels = filter (is_of Channels v) es in
      let persons = filter (is_of Persons v) es in
      let parts = IsPermutation-filter_both (is_of Channels v) (is_of Persons v) (λ e. refl) es in
      let both = IsPermutation-append channels _ persons _
      (groups_once (group_key Channels v) channels) (groups_once (group_key Persons v) persons) in
      IsPermutation-trans es _ _ parts
      (rw flat_map-append both)

  visits_once : (es : List EntryParts)
      → IsPermutation es (all_of (other_groups Channels v es) ++ filter (is_of Persons v) es)
  visits_once es =
      let channels = filter (is_of Channels v) es in
      let persons = filter (is_of Persons v) es in
      IsPermutation-trans es _ _
      (IsPermutation-filter_both (is_of Channels v) (is_of Persons v) (λ e. refl) es)
      (IsPermutation-append_left persons channels _ (groups_once (group_key Channels v) channels))

  others_once : (playing : Playing) (caps : Caps) (es : List EntryParts)
      → IsPermutation es (others_played playing v caps es)
  others_once playing caps es = by (is_private playing caps) (is_visiting playing v) where
    by : (b c : Bool) → IsPermutation es (cond b (all_of (apart_groups v es))
        (cond c (all_of (other_groups Channels v es) ++ filter (is_of Persons v) es) es))
    by true c = apart_once es
    by false true = visits_once es
    by false false = IsPermutation-refl es

  pub once_by : (playing : Playing) (caps : Caps) (es : List EntryParts)
      → IsPermutation es (played_by playing v caps es)
  once_by playing caps es =
      IsPermutation-trans es _ _ (played_once v es) (IsPermutation-append_right
      (messages_of v es (fin.entries v.channels)) (left_over v es) _
      (others_once playing caps (left_over v es)))
