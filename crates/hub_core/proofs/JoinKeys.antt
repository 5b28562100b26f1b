-- The keys that clients joined by, and the keys that are known.
use Rattle.hub_core.specs.JoinKeys.{JoinKeyParts, join_key, join_keys, keys_heard, keys_told}
use Rattle.hub_core.specs.declared.join_keys.JoinKey.{JoinKey}
use Rattle.std.proofs.Common.{List, [], ◌++◌, ◌≡◌, ◌<◌, ◌+◌, ℕ, map, take, drop, length, get_or, set, refl, arith}
use Rattle.std.proofs.lemmas.List.{get_or_default, get_or-map, length-map, map-set}
use Rattle.std.proofs.lemmas.List.Edits.{map_over_more}
use Rattle.irc_line.specs.Line.{Parts}
use Rattle.net_view.specs.Arrival.{Arrival, Lost, Received}
use Rattle.net_view.specs.Told.{Told}
use Rattle.net_view.specs.StateLines.{told}
use Rattle.net_view.specs.View.{View}

-- what is at a place of the list does not depend on what is given for the others
get_or-any : {X : Type 0} (xs : List X) (i : ℕ) (a b : X) → i < length xs →
    get_or xs i a ≡ get_or xs i b
get_or-any xs i a b h = get_or_default xs i a _ h

-- one more of them was changed
pub each_known : (f : JoinKeyParts → JoinKeyParts) (all : List JoinKeyParts) (xs : List JoinKey)
    (i : ℕ) (d y : JoinKey) → i < length xs → i < length all
    → join_keys xs ≡ map f (take i all) ++ drop i all → join_key y ≡ f (join_key (get_or xs i d))
    → join_keys (set xs i y) ≡ map f (take (i + 1) all) ++ drop (i + 1) all
each_known f all xs i d y h within before is =
    let here = get_or-map join_key xs i d (join_key d) h in
    let more = map_over_more f all (join_keys xs) i (join_key (get_or xs i d)) within before in
    let at = get_or-any (join_keys xs) i (join_key d) (join_key (get_or xs i d)) (rw length-map h) in
    grind (arith, map-set join_key xs i y, is, more, here, at)

-- nothing is heard of no keys
none_told : (v : View) (line : Parts) (t : Told) → keys_told v line t [] ≡ []
none_told v line t = grind arith

pub none_heard : (v : View) (x : Arrival) → keys_heard v x [] ≡ []
none_heard v Lost = refl
none_heard v (Received line) = none_told v line (told v.settings (Received line))
