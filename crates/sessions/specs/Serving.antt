-- How a client was served.
use Rattle.std.specs.Prelude.{◌≡◌, ◌≢◌, ◌⊎◌, ℕ, List, Option, Some}
use Rattle.std.specs.Io.KnownBytes.{Consumes}
use Rattle.std.specs.declared.io.traits.Write.{Ghosts}
use Rattle.irc_line.specs.Line.{Parts}
use Rattle.irc_line.specs.Lines.{Pending}
use Rattle.bnc_config.specs.Settings.{Settings}
use Rattle.bnc_config.specs.declared.place.Place.{Place}
use Rattle.hub_threads.specs.declared.ending.Ended.{Ended}
use Rattle.hub_threads.specs.Rings.{items_of}
use Rattle.sessions.specs.Admission.{IsLetIn}
use Rattle.sessions.specs.Claims.{ClaimParts, parts_of}
use Rattle.sessions.specs.Leaving.{HasEnded, WasHeard}
use Rattle.sessions.specs.Logins.{IsCauseOf, LogsIn}
use Rattle.sessions.specs.declared.arrival.Ending.{Ending}
use Rattle.sessions.specs.declared.arrival.Ending.TheVariants.{Claims, Closes}
use Rattle.sessions.specs.declared.attending.Leave.{Leave}
use Rattle.sessions.specs.declared.claim.Claim.{Claim}
use Rattle.sessions.specs.declared.fault.LoginFault.{LoginFault}
use Rattle.sessions.specs.declared.fault.LoginFault.TheVariants.{OutOfMemory}
use Rattle.sessions.specs.declared.serving.Served.{Served}
use Rattle.sessions.specs.declared.serving.Served.TheVariants as served

-- A client came in: it logged in over its streams, and what it claims is let in.
pub record CameIn (lets_in : ClaimParts → Type 0) (began was : Option (List ℕ)) : Type 0 where
  pub claim : Claim
  -- what is left to read and was written by then, and what was read and not yet taken
  pub left : Option (List ℕ)
  pub now : Option (List ℕ)
  pub lines : List Parts
  pub splitter : Pending
  pub login : LogsIn began left was now (Claims claim) lines splitter
  pub let_in : lets_in (parts_of claim)

-- A login failed for this cause, after these bytes were read.
pub record Failed (began left : Option (List ℕ)) : Type 0 where
  pub bytes : List ℕ
  pub fault : LoginFault
  pub read : Consumes began left bytes
  pub cause : IsCauseOf bytes fault
  pub not_memory : fault ≢ OutOfMemory

-- why a login that ended so gives no session: it was closed; or the watcher turned its client away,
-- or what it claims is denied
abbrev pub IsNoWayIn : (ClaimParts → Type 0) → (ClaimParts → Type 0) → Ending → Type 0
IsNoWayIn turns_away denies Closes = Unit {0}
IsNoWayIn turns_away denies (Claims claim) = turns_away (parts_of claim) ⊎ denies (parts_of claim)

-- A login ended, and gives no session. All that was read is its own.
pub record GotNoWayIn (turns_away denies : ClaimParts → Type 0) (began left was : Option (List ℕ))
    : Type 0 where
  pub ending : Ending
  pub now : Option (List ℕ)
  pub lines : List Parts
  pub splitter : Pending
  pub login : LogsIn began left was now ending lines splitter
  pub why : IsNoWayIn turns_away denies ending

module _ {W : Type 0} {g : Ghosts W} (contents : W → Option (List ℕ))
    (turns_away : ClaimParts → Type 0) (session : Option ℕ) (lets_in denies : ClaimParts → Type 0)
    (began left was : Option (List ℕ)) where
  -- A client came in, and had a session: what it said after its login was heard until it left, and
  -- its writer wrote after what its login was sent.
  pub record HadSession (e : Ended W g) : Type 0 where
    pub came : CameIn lets_in began was
    pub why : Leave
    pub heard : WasHeard came.splitter came.lines came.left left why
    -- of this number, which its watcher was given
    pub id : ℕ
    pub given : session ≡ Some id
    pub ended : HasEnded id e.token e.fresh (items_of e.end) came.now (contents e.out) e.written

  -- Only who came in has a session, or is refused one; and who logged in and is not denied has
  -- one or is refused one, if the watcher has not turned the client away.
  abbrev pub IsServedBy : Served W g → Type 0
  IsServedBy served.NoLogin =
      Failed began left ⊎ GotNoWayIn turns_away denies began left was
  IsServedBy (served.Refused e) = CameIn lets_in began was
  IsServedBy served.Cut = CameIn lets_in began was
  IsServedBy (served.Ended e) = HadSession e

-- The same by settings, and by the places of the networks that are served: who is let in by these is
-- let in, and everybody else is denied.
abbrev pub IsServed : {W : Type 0} {g : Ghosts W} → (W → Option (List ℕ)) → (ClaimParts → Type 0)
    → Option ℕ → Settings → List Place → Option (List ℕ) → Option (List ℕ) → Option (List ℕ)
    → Served W g → Type 0
IsServed contents turns_away session settings places =
    IsServedBy contents turns_away session (IsLetIn settings places)
    (λ claim. IsLetIn settings places claim → ⊥)
