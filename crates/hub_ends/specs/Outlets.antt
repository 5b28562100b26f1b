-- What contracts see of an outlet, and what becomes of it.
use Rattle.std.specs.Prelude.{◌≡◌, ◌≤◌, ◌+◌, ◌∷◌, ◌++◌, [], ℕ, List, Option, None, Bool, true}
use Rattle.irc_line.specs.Line.{Parts}

-- an outlet: the packets that it was sent, the number that it was closed with, how many packets it
-- holds at most that the other end has not taken yet, and how many more it is known to take: none
-- once it is closed
pub record OutletState : Type 0 where
  pub sent : List (List Parts)
  pub closed : Option ℕ
  pub capacity : ℕ
  pub free : ℕ

-- an outlet for this many packets, to which nothing was sent
abbrev pub new_outlet : ℕ → OutletState
new_outlet capacity = record { sent = []; closed = None; capacity = capacity; free = capacity }

-- It took a packet. Of its room at most one place is gone; if room comes by its own end alone,
-- exactly one.
pub record Took (alone : Bool) (o : OutletState) (packet : List Parts) (o' : OutletState) : Type 0 where
  pub sent : o'.sent ≡ o.sent ++ packet ∷ []
  pub closed : o'.closed ≡ o.closed
  pub capacity : o'.capacity ≡ o.capacity
  pub more : o.free ≤ o'.free + 1
  pub room : alone ≡ true → o.free ≡ o'.free + 1

-- It is as it was, except that more room may be known in it; if room comes by its own end alone,
-- no more is.
pub record FindsRoom (alone : Bool) (o o' : OutletState) : Type 0 where
  pub sent : o'.sent ≡ o.sent
  pub closed : o'.closed ≡ o.closed
  pub capacity : o'.capacity ≡ o.capacity
  pub more : o.free ≤ o'.free
  pub room : alone ≡ true → o'.free ≡ o.free
