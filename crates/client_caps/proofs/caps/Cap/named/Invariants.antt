use Rattle.client_caps.proofs.caps.Cap.named.Given as goal
use Rattle.{client_caps.specs.Caps.{cap_name, cap_named, offered_caps}, std.proofs.Common.drop}
use Rattle.std.{proofs.Common.◌≡◌, specs.{List.find, Str.bytes_eq}}

abbrev pub invariant-loop-cap : goal.invariant-loop-cap
invariant-loop-cap l = record {
  six : l.cap-items ≡ offered_caps;
  none_before : find (λ cap. bytes_eq l.name (cap_name cap)) (drop l.cap-index l.cap-items)
      ≡ cap_named l.name;
}
