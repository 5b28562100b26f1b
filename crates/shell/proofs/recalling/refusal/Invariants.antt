use Rattle.std.proofs.Common.{◌≡◌, None, drop, option_map}
use Rattle.shell.specs.Recalled.{refusal_after}
use Rattle.shell.proofs.recalling.refusal.Given as goal

abbrev pub invariant-loop-line : goal.invariant-loop-line
invariant-loop-line l =
    refusal_after l.about (option_map (λ t. t.now) l.found) (drop l.line-index l.lines)
    ≡ refusal_after l.about None l.lines
