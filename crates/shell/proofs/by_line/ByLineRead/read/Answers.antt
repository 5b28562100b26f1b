use Rattle.std.proofs.Common.{◌-◌, ◌≤◌, rules, arith, subst, sym}
use Rattle.shell.specs.Held.{line_length}
use Rattle.shell.proofs.Lines.{line_left, line_stops}
use Rattle.shell.proofs.by_line.ByLineRead.read.Goals as goal

pub invariant_of-self-2 : goal.invariant_of-self-2
invariant_of-self-2 g c =
    let line = c.begin_line.new.self in
    let n = c.in_ok-count.count in
    record {
      within = subst (λ held. line.left - n ≤ line_length held) (sym c.in_ok-count.ensures.rest)
          (line_left line.left n line.ahead line.within);
    }

pub returns-clause-line : goal.returns-clause-line
returns-clause-line g c =
    let line = c.begin_line.new.self in
    line_stops c.in_ok-count.count line.ahead _ c.give.new.buf c.in_ok-count.ensures.given
    (search rules) (omega (arith, line.within, c.in_ok-count.ensures.count))
