-- Outlets in which room was found, or in memory, out of which packets were taken.
use Rattle.hub_core.specs.declared.hub.HubError.TheVariants as fault
use Rattle.hub_core.specs.declared.said.Said.TheVariants as said
use Rattle.hub_core.proofs.Words.{◌+◌, ◌-◌, ◌<◌, ◌∷◌, ◌≡◌, ◌≤◌, Bool, Delivered, Forwards, HubState}
use Rattle.hub_core.proofs.Words.{IsSome, List, None, OutletState, Parts, SessionState, Took, []}
use Rattle.hub_core.proofs.Words.{arith, heard, is_online, is_some, refl, true, ℕ}
use Rattle.hub_core.specs.{InMemory.Drains, declared.{hub.HubError.HubError, said.Said.Said}}
use Rattle.{hub_core.specs.Saying.{Sent, Stays, given_others}, std.proofs.Common.{cond, min}}
use Rattle.{hub_ends.specs.Outlets.FindsRoom, std.specs.Prelude.{Err, IfErr, IfOk, Ok, Result}}

-- a packet was taken once room was found
pub found_took : (alone : Bool) (o m o' : OutletState) (p : List Parts) → FindsRoom alone o m
    → Took alone m p o' → Took alone o p o'
found_took alone o m o' p found took = grind arith

-- of those that wait
pub drained : (o o' : OutletState) (most taken waiting : ℕ) → o'.sent ≡ o.sent
    → o'.closed ≡ o.closed → o'.capacity ≡ o.capacity → waiting ≤ o.capacity
    → o.free ≡ cond (is_some o.closed) 0 (o.capacity - waiting) → taken ≡ min most waiting
    → o'.free ≡ cond (is_some o.closed) 0 (o.free + taken) → Drains o most taken o'
drained o o' most taken waiting sent closed capacity few free count now = grind arith

-- that more room is known of changes nothing else
pub forwards_from : (alone : Bool) (old mid new : HubState) (id : ℕ) (line : Parts) (moment : ℕ)
    → Stays alone old mid → Forwards alone mid id line moment new
    → Forwards alone old id line moment new
forwards_from alone old mid new id line moment s f0 =
    let f = rw s.is at f0 in
    grind (arith, f, found_took alone _ _ _ _ s.found f.upstream)

-- nobody is given anything of what is no message
pub nobody : (alone : Bool) (h : HubState) (id : ℕ) (ss : List SessionState)
    → Delivered alone (given_others h id None) ss ss
nobody alone h id [] = refl
nobody alone h id (s ∷ ss) = grind (arith, nobody alone h id ss)

-- what came of it, from what came once room was found
pub sent_from : (alone : Bool) (old mid new : HubState) (id : ℕ) (line : Parts) (moment : ℕ)
    (r : Result Said HubError) → is_online (heard old) ≡ true → IsSome old.history.next
    → 0 < mid.upstream.free → Stays alone old mid
    → IfOk r (λ s. (s ≡ said.Forwarded) × Forwards alone mid id line moment new)
    → IfErr r (λ e. (e ≡ fault.OutOfMemory) × (new ≡ mid)) → Sent alone old id line moment r new
sent_from alone old mid new id line moment (Ok s) online number room stays ok err =
    rw ok.0 (forwards_from alone old mid new id line moment stays ok.1)
sent_from alone old mid new id line moment (Err e) online number room stays ok err =
    rw err.0 (online, (λ _. number), rw err.1 room, rw err.1 stays)
