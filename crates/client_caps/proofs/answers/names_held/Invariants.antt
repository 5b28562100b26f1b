use Rattle.std.proofs.Common.{◌≡◌, map, filter, take}
use Rattle.client_caps.specs.Caps.{cap_name, holds, offered_caps}
use Rattle.client_caps.proofs.answers.names_held.Given as goal

abbrev pub invariant-loop-cap : goal.invariant-loop-cap
invariant-loop-cap g l = record {
  six : l.cap-items ≡ offered_caps;
  so_far : map (λ n. n.now) l.names.items
      ≡ map cap_name (filter (holds l.held) (take l.cap-index l.cap-items));
}
