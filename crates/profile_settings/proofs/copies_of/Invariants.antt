use Rattle.profile_settings.proofs.copies_of.Given as goal
use Rattle.std.proofs.Common.{map, take, ◌≡◌}

abbrev pub invariant-loop-name : goal.invariant-loop-name
invariant-loop-name l = map (λ copy. copy.items) l.copies.items ≡ take l.name-index l.names
