-- Clients that were let in.
use Rattle.std.proofs.Common.{◌≡◌, ◌<◌, ℕ, Bool, true, false, refl, length, List, Some, get_or}
use Rattle.std.specs.List.{Any, position}
use Rattle.steward.specs.declared.network.Network.{Network}
use Rattle.steward.proofs.Begun.{somewhere}
use Rattle.steward.specs.declared.client.Client.{Client}
use Rattle.steward.specs.declared.client.Stage.{Stage}
use Rattle.steward.specs.declared.client.Stage.TheVariants.{LoggingIn, Late, Inside, Parting, Told}
use Rattle.steward.specs.Clients.{is_inside_as, is_let_in}
use Rattle.std.proofs.lemmas.List.Quantifiers.{position-Some}
use Rattle.steward.proofs.Filters.{get_or-any}
use Rattle.steward.proofs.Withins.{and_left, and_right, number_is}

pub not_let_in : {A : Type 0} (s : Stage) → ((n : ℕ) → s ≡ Inside n → ⊥) → is_let_in s ≡ true → A
not_let_in LoggingIn h e = cc
not_let_in (Late time) h e = cc
not_let_in (Inside network) h e = absurd (h network refl)
not_let_in (Parting network) h e = cc
not_let_in Told h e = cc

-- what a search found of which anything was taken that is not there
pub record IsThere (xs : List Client) (i : ℕ) (d : Client) (number : ℕ) : Type 0 where
  pub below : i < length xs
  pub at : get_or xs i (get_or xs i d) ≡ get_or xs i d
  pub let_in : is_let_in (get_or xs i d).stage ≡ true
  pub named : (get_or xs i d).number ≡ number

pub inside_at : (number : ℕ) (xs : List Client) (i : ℕ) (d : Client) →
    position (is_inside_as number) xs ≡ Some i → IsThere xs i d number
inside_at number xs i d p =
    let s = position-Some (is_inside_as number) xs i d p in
    record {
      below = s.0;
      at = get_or-any xs i _ d s.0;
      let_in = and_left _ _ s.1;
      named = number_is _ number _ refl (and_right _ _ s.1);
    }

-- what a search that failed would give
abbrev pub nobody : Client
nobody = record { number = 0; from = 0; is_exempt = false; stage = LoggingIn }

-- a network that a search found is there
pub found : (p : Network → Bool) (xs : List Network) (i : ℕ) → position p xs ≡ Some i →
    Any (λ x. p x ≡ true) xs
found p xs i e =
    let s = position-Some p xs i somewhere e in
    (i, get_or xs i somewhere, s.0, get_or-any xs i _ somewhere s.0, s.1)
