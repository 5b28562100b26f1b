use Rattle.std.proofs.Common.{◌≡◌, ◌++◌, map}
use Rattle.client_caps.proofs.images.all_params.Given as goal

abbrev pub invariant-loop-param : goal.invariant-loop-param
invariant-loop-param g l = map (λ p. p.now) l.params.items ++ l.param-iterator ≡ l.line.params
