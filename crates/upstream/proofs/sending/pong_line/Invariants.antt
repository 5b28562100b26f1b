use Rattle.std.proofs.Common.{◌≡◌, ◌++◌, map, List, ℕ, Bor}
use Rattle.upstream.proofs.sending.pong_line.Given as goal

abbrev pub invariant-loop-param : goal.invariant-loop-param
invariant-loop-param l =
    map (λ (p : Bor (List ℕ)). p.now) l.params.items ++ l.param-iterator ≡ l.ping.params
