-- A client that came in, from what its login and its judge say.
use Rattle.bnc_config.specs.{Settings.Settings, declared.place.Place.Place}
use Rattle.{irc_line.specs.{Line.Parts, Lines.Pending}, sessions.specs.Admission.{Admits, IsLetIn, IsUnknown}}
use Rattle.sessions.specs.{Claims.{ClaimParts, parts_of}, Logins.LogsIn, Serving.CameIn}
use Rattle.sessions.specs.declared.{arrival.Ending.{Ending, TheVariants.Claims}, claim.Claim.Claim}
use Rattle.std.proofs.{Common.{◌≡◌, List, None, Option, Some, map, refl, ℕ}, lemmas.Option.slice_get-map}
use Rattle.std.specs.Prelude.{IfNone, IfSome, slice_get}

module _ {N M : Type 0} (settings : Settings) (networks : List (Place × N)) (claim : ClaimParts)
    (of : M → N) where
  -- what was let in
  pub let_in_by : (r : Option M) → IfSome r (λ m. (place : Place) × (number : ℕ)
      × Admits settings claim (Some place) × (slice_get networks number ≡ Some (place, of m)))
      → IfSome r (λ _. IsLetIn settings (map (λ (one : Place × N). one.0) networks) claim)
  let_in_by None found = tt
  let_in_by (Some m) found = record {
    place = found.0;
    password = found.2.0;
    network = found.2.1;
    number = found.1;
    served = rw (slice_get-map (λ (one : Place × N). one.0) networks found.1, found.3) refl;
  }

  -- what was not is not let in
  pub denied_by : (r : Option M) → IfNone r ((place : Place) → Admits settings claim (Some place)
      → IsUnknown (map (λ (one : Place × N). one.0) networks) place)
      → IfNone r (IsLetIn settings (map (λ (one : Place × N). one.0) networks) claim → ⊥)
  denied_by None h = λ l. h l.place (l.password, l.network) l.number l.served
  denied_by (Some m) h = tt

-- its login ended with a claim, and the claim was let in
pub came_in_by : (lets_in : ClaimParts → Type 0) (claim : Claim) → lets_in (parts_of claim)
    → {began left was now : Option (List ℕ)} {ending : Ending} {lines : List Parts}
    {splitter : Pending} → LogsIn began left was now ending lines splitter
    → ending ≡ Claims claim → CameIn lets_in began was
came_in_by lets_in claim let_in login is = record {
  claim = claim;
  left = _;
  now = _;
  lines = _;
  splitter = _;
  login = rw is at login;
  let_in = let_in;
}
