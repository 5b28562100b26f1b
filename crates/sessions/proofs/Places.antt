-- Where a place is, and that it is nowhere.
use Rattle.bnc_config.specs.{Settings.{Matches, Settings, place_of}, declared.place.Place.Place}
use Rattle.{irc_support.specs.Text.Text, sessions.specs.Admission.{Admits, IsUnknown}}
use Rattle.{sessions.specs.Claims.ClaimParts, std.proofs.Common.{◌++◌, ◌∙◌, ◌∷◌, ◌≡◌, List, None}}
use Rattle.std.proofs.Common.{Option, Some, [], ap, map, subst, suc, sym, zero, ℕ}
use Rattle.std.specs.{Option.option_map, Prelude.IfNone}

-- none of these is beside the place
abbrev pub Lacks : {N : Type 0} → List (Place × N) → Place → Type 0
Lacks [] place = Unit {0}
Lacks (x ∷ xs) place = (x.0 ≡ place → ⊥) × Lacks xs place

pub lacks_more : {N : Type 0} (xs : List (Place × N)) (x : Place × N) (place : Place)
    → Lacks xs place → (x.0 ≡ place → ⊥) → Lacks (xs ++ x ∷ []) place
lacks_more [] x place h other = (other, tt)
lacks_more (y ∷ ys) x place h other = (h.0, lacks_more ys x place h.1 other)

pub unknown : {N : Type 0} (xs : List (Place × N)) (place : Place) → Lacks xs place
    → IsUnknown (map (λ (one : Place × N). one.0) xs) place
unknown [] place h number is = absurd cc
unknown (x ∷ xs) place h zero is = h.0 (cc)
unknown (x ∷ xs) place h (suc n) is = unknown xs place h.1 n is

-- what was found of a claim whose password is right
pub admits_by : (settings : Settings) (claim : ClaimParts) (asked password user network : Text)
    (found : Option Place) → asked ≡ claim.user → password ≡ claim.password → user ≡ claim.user
    → network ≡ claim.network → option_map (λ (place : Place). (place.user, place.network)) found
    ≡ place_of settings user network → Matches settings asked password → Admits settings claim found
admits_by settings claim asked password user network None a p u n is right =
    λ _. sym (rw (u, n) at is)
admits_by settings claim asked password user network (Some place) a p u n is right = (
  subst (λ t. Matches settings t claim.password) a
      (subst (λ t. Matches settings asked t) p right),
  sym (rw (u, n) at is),
)

-- the place of two numbers
back : Place → Option (ℕ × ℕ) → Place
back other None = other
back other (Some pair) = record { user = pair.0; network = pair.1 }

one_place : (a b : Place)
    → ◌≡◌ {A = Option (ℕ × ℕ)} (Some (a.user, a.network)) (Some (b.user, b.network)) → a ≡ b
unfolding back
one_place a b h = ap (back a) h

-- if the network of a claim is not among these, no network that it is let in to is
pub none_for : {N M : Type 0} (settings : Settings) (networks : List (Place × N))
    (claim : ClaimParts) (found : Place) (r : Option M) → Admits settings claim (Some found)
    → IfNone r (IsUnknown (map (λ (one : Place × N). one.0) networks) found)
    → IfNone r ((place : Place) → Admits settings claim (Some place)
    → IsUnknown (map (λ (one : Place × N). one.0) networks) place)
none_for {N = N} settings networks claim found None admits h = λ place right.
    subst (IsUnknown (map (λ (one : Place × N). one.0) networks))
    (one_place found place (sym admits.1 ∙ right.1)) h
none_for settings networks claim found (Some x) admits h = tt
