use Rattle.std.proofs.Common.{◌-◌, ◌≤◌, rules, arith, subst, sym}
use Rattle.shell.specs.Held.{line_length}
use Rattle.shell.proofs.Lines.{line_left, line_stops}
use Rattle.shell.proofs.paced.PacedRead.read.Goals as goal

pub invariant_of-self-2 : goal.invariant_of-self-2
invariant_of-self-2 g c =
    let line = c.make_way.new.self in
    let n = c.in_ok-count.count in
    record {
      within = subst (λ held. line.let_in - n ≤ line_length held) (sym c.in_ok-count.ensures.rest)
          (line_left line.let_in n line.ahead line.within);
      few = omega (
        arith,
        c.in_ok-count.ensures.count,
        c.min-most.ensures,
        c.make_way.ensures.count,
      );
    }

pub returns-clause-line : goal.returns-clause-line
returns-clause-line g c =
    let line = c.make_way.new.self in
    line_stops c.in_ok-count.count line.ahead _ c.give.new.buf c.in_ok-count.ensures.given
    (search rules)
    (omega (arith, line.within, c.in_ok-count.ensures.count, c.min-most.ensures))
