-- Records that are written as several batches.
use Rattle.std.proofs.Common.{◌≡◌, ◌∙◌, ◌++◌, ℕ, List, [], ◌∷◌, Option, Result, Ok, Err, refl, sym}
use Rattle.std.proofs.Common.{ap, subst}
use Rattle.std.proofs.Common.{append_assoc}
use Rattle.std.specs.Prelude.{IfOk}
use Rattle.std.specs.List.{AllByRecursion, flat_map}
use Rattle.history.specs.Marks.{NameMarks}
use Rattle.history.specs.Messages.{Messages}
use Rattle.journal.proofs.Beginnings.{if_ok}
use Rattle.journal.specs.Kept.{KeptParts, after, after_all, after_batch, after_each, then_after}
use Rattle.journal.specs.Kept.{with_history, with_names}
use Rattle.journal.specs.Records.{RecordParts, gone, mark, message, name, next, on, seen}
use Rattle.journal.specs.Snapshots.{AreNoChannels, IsNoChannel}
use Rattle.journal.specs.declared.damage.Damage.{Damage}

-- the channels are those of before
abbrev SameChannels : KeptParts → Result KeptParts Damage → Type 0
SameChannels k r = IfOk r (λ j. j.channels ≡ k.channels)

history_same : (k : KeptParts) (r : Result Messages Damage) → SameChannels k (with_history k r)
history_same k (Ok h) = refl
history_same k (Err d) = tt

names_same : (k : KeptParts) (r s : Result NameMarks Damage) → SameChannels k (with_names k r s)
names_same k (Ok m) (Ok n) = refl
names_same k (Ok m) (Err d) = tt
names_same k (Err d) s = tt

pub one_same : (r : RecordParts) (k : KeptParts) → IsNoChannel r → SameChannels k (after r k)
one_same (next n) k none = history_same k _
one_same (message e) k none = history_same k _
one_same (name x) k none = names_same k _ _
one_same (mark x n) k none = names_same k _ _
one_same (seen x n) k none = names_same k _ _
one_same (gone x) k none = refl
one_same (on channel key) k none = absurd none

then_same : (rs : List RecordParts) (k : KeptParts) (r : Result KeptParts Damage)
    → SameChannels k r → ((j : KeptParts) → SameChannels j (after_each rs j))
    → SameChannels k (then_after (after_each rs) r)
then_same rs k (Ok j) same go = if_ok (after_each rs j) _ _ (λ i e. e ∙ same) (go j)
then_same rs k (Err d) same go = tt

each_same : (rs : List RecordParts) (k : KeptParts) → AreNoChannels rs
    → SameChannels k (after_each rs k)
each_same [] k none = refl
each_same (r ∷ rs) k none =
    then_same rs k (after r k) (one_same r k none.0) (λ j. each_same rs j none.1)

-- what is done of records at the front, and then of the others
then_split : (rs qs : List RecordParts) (kept : KeptParts) (r : Result KeptParts Damage)
    → then_after (after_each (rs ++ qs)) r ≡ Ok kept
    → ((k : KeptParts) → after_each (rs ++ qs) k ≡ Ok kept
    → (mid : KeptParts) × (after_each rs k ≡ Ok mid) × (after_each qs mid ≡ Ok kept))
    → (mid : KeptParts) × (then_after (after_each rs) r ≡ Ok mid) × (after_each qs mid ≡ Ok kept)
then_split rs qs kept (Ok k) e go = go k e
then_split rs qs kept (Err d) e go = absurd cc

split_two : (rs qs : List RecordParts) (k kept : KeptParts) → after_each (rs ++ qs) k ≡ Ok kept
    → (mid : KeptParts) × (after_each rs k ≡ Ok mid) × (after_each qs mid ≡ Ok kept)
split_two [] qs k kept e = (k, refl, e)
split_two (r ∷ rs) qs k kept e =
    then_split rs qs kept (after r k) e (λ j done. split_two rs qs j kept done)

pub without : (k : KeptParts) → k.channels ≡ [] → record k { channels = [] } ≡ k
without k none =
    ap (λ (cs : List (List ℕ × Option (List ℕ))). record k { channels = cs }) (sym none)

parts_each : (parts : List (List RecordParts)) (last : List RecordParts) (k kept : KeptParts)
    → AllByRecursion AreNoChannels parts → k.channels ≡ []
    → after_each (flat_map (λ (p : List RecordParts). p) parts ++ last) k ≡ Ok kept
    → after_all (parts ++ last ∷ []) k ≡ Ok kept
parts_each [] last k kept all none e =
    ap (then_after (after_all [])) (ap (after_each last) (without k none) ∙ e)
parts_each (p ∷ ps) last k kept all none e =
    let later = flat_map (λ (p : List RecordParts). p) ps in
    let s = split_two p (later ++ last) k kept
    (ap (λ (rs : List RecordParts). after_each rs k) (sym (append_assoc p later last)) ∙ e) in
    let same : s.0.channels ≡ k.channels = subst (SameChannels k) s.1 (each_same p k all.0) in
    let first : after_batch p k ≡ Ok s.0 = ap (after_each p) (without k none) ∙ s.1 in
    ap (then_after (after_all (ps ++ last ∷ []))) first
    ∙ parts_each ps last s.0 kept all.1 (same ∙ none) s.2

pub in_parts : (parts : List (List RecordParts)) (last : List RecordParts) (k kept : KeptParts)
    → AllByRecursion AreNoChannels parts → k.channels ≡ []
    → after_batch (flat_map (λ (p : List RecordParts). p) parts ++ last) k ≡ Ok kept
    → after_all (parts ++ last ∷ []) k ≡ Ok kept
in_parts parts last k kept all none e =
    let together = flat_map (λ (p : List RecordParts). p) parts ++ last in
    parts_each parts last k kept all none (ap (after_each together) (sym (without k none)) ∙ e)
