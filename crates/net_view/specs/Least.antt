-- The least key above another, of those that pass a test: in any order of keys, and in that of the
-- keys of names.
use Rattle.std.specs.Prelude.{◌≡◌, Bool, true, false, List, [], ◌∷◌, ◌&&◌, if◌then◌else◌}
use Rattle.std.specs.Option.{IfSome, MatchOption, option_map}
use Rattle.std.specs.declared.cmp.Ordering.{Ordering}
use Rattle.std.specs.Ordering.{is_lt}
use Rattle.std.proofs.Common.{Option, Some, None}
use Rattle.net_view.specs.Settings.{key_by}
use Rattle.net_view.specs.Text.{Text}
use Rattle.net_view.specs.Tokens.{Token}
use Rattle.net_view.specs.Names.{bytes_cmp}

-- above this key; if there is none, any key is
abbrev pub above_by : {K : Type 0} → (K → K → Ordering) → Option K → K → Bool
above_by R None k = true
above_by R (Some a) k = is_lt (R a k)

-- the least key that passes the test and is above the given one, if there is one
pub record IsNextBy {K : Type 0} (R : K → K → Ordering) (there : K
    → Bool) (after best : Option K) : Type 0 where
  pub found : IfSome best (λ b. (there b ≡ true) × (above_by R after b ≡ true))
  pub least : (c : K) → there c ≡ true → above_by R after c ≡ true
      → MatchOption best ⊥ (λ b. is_lt (R c b) ≡ false)

-- whether a key is less than the best so far, if any
abbrev pub improves_by : {K : Type 0} → (K → K → Ordering) → Option K → K → Bool
improves_by R None k = true
improves_by R (Some b) k = is_lt (R k b)

-- the best so far, or this key, if it is there, above the given one and less than the best
abbrev pub better_by : {K : Type 0} → (K → K → Ordering) → (K → Bool) → Option K → Option K → K
    → Option K
better_by R there after best c =
    if above_by R after c && improves_by R best c && there c then Some c else best

-- the best so far, or the best of the keys that are brought up
abbrev pub considered_by : {K : Type 0} → (K → K → Ordering) → (K → Bool) → Option K → Option K
    → List K → Option K
considered_by R there after best [] = best
considered_by R there after best (c ∷ cs) =
    considered_by R there after (better_by R there after best c) cs

-- ---- the keys of names

abbrev pub above : Option Text → Text → Bool
above = above_by bytes_cmp

abbrev pub IsNext : (Text → Bool) → Option Text → Option Text → Type 0
IsNext = IsNextBy bytes_cmp

abbrev pub improves : Option Text → Text → Bool
improves = improves_by bytes_cmp

abbrev pub better : (Text → Bool) → Option Text → Option Text → Text → Option Text
better = better_by bytes_cmp

abbrev pub considered : (Text → Bool) → Option Text → Option Text → List Text → Option Text
considered = considered_by bytes_cmp

-- the key of a name, under these settings
abbrev pub key_in : List Token → Option Text → Option Text
key_in settings name = option_map (key_by settings) name
