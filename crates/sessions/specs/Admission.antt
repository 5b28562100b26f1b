-- Who is let in, and what those receive who are not.
use Rattle.std.specs.Prelude.{◌≡◌, ◌∷◌, [], ℕ, List, Option, None, Some, codes, slice_get}
use Rattle.irc_line.specs.Line.{Parts}
use Rattle.irc_line.specs.Writing.{untagged_line}
use Rattle.irc_support.specs.Text.{Text}
use Rattle.bnc_config.specs.Settings.{Matches, Settings, place_of}
use Rattle.bnc_config.specs.declared.place.Place.{Place}
use Rattle.hub_core.specs.declared.attach.AttachError.{AttachError}
use Rattle.hub_core.specs.declared.attach.AttachError.TheVariants as refused
use Rattle.sessions.specs.Claims.{ClaimParts}

-- the place of the network that is claimed, for who has the password; none for anybody else, and
-- if there is no such network
abbrev pub Admits : Settings → ClaimParts → Option Place → Type 0
Admits settings claim (Some place) =
    Matches settings claim.user claim.password
    × (place_of settings claim.user claim.network ≡ Some (place.user, place.network))
Admits settings claim None =
    Matches settings claim.user claim.password
    → place_of settings claim.user claim.network ≡ None

-- a place is not among these
abbrev pub IsUnknown : List Place → Place → Type 0
IsUnknown places place = (number : ℕ) → slice_get places number ≡ Some place → ⊥

-- A claim is let in: it has the password of its user, and its network is at this place, which
-- is one of these.
pub record IsLetIn (settings : Settings) (places : List Place) (claim : ClaimParts) : Type 0 where
  pub place : Place
  pub password : Matches settings claim.user claim.password
  pub network : place_of settings claim.user claim.network ≡ Some (place.user, place.network)
  pub number : ℕ
  pub served : slice_get places number ≡ Some place

-- why a client was not attached (our own words)
abbrev pub refusal_text : AttachError → Text
refusal_text refused.NotReady = codes "not ready"
refusal_text refused.Full = codes "too many sessions"
refusal_text refused.NamesFull = codes "too many client names"
refusal_text refused.Spent = codes "numbers spent"
refusal_text refused.OutOfMemory = codes "no memory"
refusal_text refused.OutletFull = codes "session is full"

-- ERROR (RFC 2812, section 3.7.4)
abbrev pub refusal_line : AttachError → Parts
refusal_line e = untagged_line None (codes "ERROR") (refusal_text e ∷ [])
