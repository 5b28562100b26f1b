use Rattle.irc_support.proofs.tokens.edits.Given as goal
use Rattle.irc_support.specs.{Edits.edited, Tokens.{Token, after_param}}
use Rattle.std.proofs.Common.{List, fold, map, ◌≡◌}

abbrev pub invariant-loop-param : goal.invariant-loop-param
invariant-loop-param g l =
    (settings : List Token) → fold edited settings l.edits.items
    ≡ fold after_param settings (map (λ p. p.now) l.yielded)
