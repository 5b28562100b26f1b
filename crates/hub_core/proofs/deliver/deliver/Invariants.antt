use Rattle.hub_core.proofs.deliver.deliver.Given as goal
use Rattle.hub_core.proofs.{Walk.IsPartWay, Words.{state_of, ◌+◌, ◌≡◌, ◌≤◌}}
use Rattle.std.specs.Vec.{vec_len}

abbrev pub invariant-loop-place : goal.invariant-loop-place
invariant-loop-place g l = record {
  walk : IsPartWay (state_of g.O.Outlet.state)
      (λ s. s.coming) g.O.Outlet.alone l.initial.sessions.items l.sessions.items l.place;
  count : l.cut + vec_len l.sessions ≡ vec_len l.initial.sessions;
  within : l.place ≤ vec_len l.sessions;
}

abbrev pub decreases-loop-place : goal.decreases-loop-place
decreases-loop-place g l = l.place
