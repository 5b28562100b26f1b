use Rattle.irc_line.proofs.splitter.read_on.Goals as goal
use Rattle.irc_line.proofs.ReadOn.{lines-off, lines-on, rest-off, rest-on, skipped-off, skipped-on}
use Rattle.std.proofs.Common.{arith, false, rules, sym, true, ◌∙◌}

pub returns-in_default-clause-added : goal.returns-in_default-clause-added
returns-in_default-clause-added g c =
    lines-off c.args.rest.now.items _ c.requires c.in_default.ensures.none _

pub returns-in_default-clause-left : goal.returns-in_default-clause-left
returns-in_default-clause-left g c =
    c.in_ok-extend_from_slice.ensures.items
    ∙ rest-off c.args.rest.now.items _ c.requires c.in_default.ensures.none

pub returns-in_default-clause-skips : goal.returns-in_default-clause-skips
returns-in_default-clause-skips g c =
    skipped-off c.args.rest.now.items _ c.requires c.in_default.ensures.none

pub returns-then-first_skips-clause-added : goal.returns-then-first_skips-clause-added
returns-then-first_skips-clause-added g c =
    lines-on c.args.rest.now.items _ _ c.in-Some.after.now c.requires c.in-Some.ensures.some
    _ _ _ c.in_ok-first_skips.ensures.added c.in_ok-tail.ensures.added

pub returns-then-first_skips-clause-left : goal.returns-then-first_skips-clause-left
returns-then-first_skips-clause-left g c =
    rest-on c.args.rest.now.items _ _ c.in-Some.after.now c.requires c.in-Some.ensures.some
    c.read_first.new.rest.items _ _ _ _ (search rules) c.in_ok-tail.ensures.left
    c.in_ok-extend_from_slice-2.ensures.items c.drop_front.ensures

pub returns-then-first_skips-clause-skips : goal.returns-then-first_skips-clause-skips
returns-then-first_skips-clause-skips g c =
    skipped-on c.args.rest.now.items _ _ c.in-Some.after.now c.requires c.in-Some.ensures.some true
    _ (sym c.if-first_skips.true ∙ c.in_ok-first_skips.ensures.skips)
    (omega (arith, c.in_ok-tail.ensures.skips))

pub returns-else-first_skips-clause-added : goal.returns-else-first_skips-clause-added
returns-else-first_skips-clause-added g c =
    lines-on c.args.rest.now.items _ _ c.in-Some.after.now c.requires c.in-Some.ensures.some
    _ _ _ c.in_ok-first_skips.ensures.added c.in_ok-tail.ensures.added

pub returns-else-first_skips-clause-left : goal.returns-else-first_skips-clause-left
returns-else-first_skips-clause-left g c =
    rest-on c.args.rest.now.items _ _ c.in-Some.after.now c.requires c.in-Some.ensures.some
    c.read_first.new.rest.items _ _ _ _ (search rules) c.in_ok-tail.ensures.left
    c.in_ok-extend_from_slice-2.ensures.items c.drop_front.ensures

pub returns-else-first_skips-clause-skips : goal.returns-else-first_skips-clause-skips
returns-else-first_skips-clause-skips g c =
    skipped-on c.args.rest.now.items _ _ c.in-Some.after.now c.requires c.in-Some.ensures.some false
    _ (sym c.if-first_skips.false ∙ c.in_ok-first_skips.ensures.skips)
    (omega (arith, c.in_ok-tail.ensures.skips))
