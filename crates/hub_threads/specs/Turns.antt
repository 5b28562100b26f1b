-- How often a worker does something.
use Rattle.std.specs.Prelude.{ℕ, Bool, false, nat_le}
use Rattle.hub_threads.specs.declared.turns.Turns.{Turns}
use Rattle.hub_threads.specs.declared.turns.Turns.TheVariants.{Endless, AtMost}

-- whether none is left after this many (our own choice)
abbrev pub are_over : Turns → ℕ → Bool
are_over Endless made = false
are_over (AtMost limit) made = nat_le limit made
