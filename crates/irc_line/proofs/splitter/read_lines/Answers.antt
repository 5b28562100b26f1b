use Rattle.irc_line.proofs.splitter.read_lines.Goals as goal
use Rattle.irc_line.proofs.ReadOn.{read_more}
use Rattle.std.proofs.Common.{[], append-nil, arith, false, refl, sym, true, ◌∙◌}

pub loop-segment-init : goal.loop-segment-init
loop-segment-init g c = record {
  done = [];
  added = sym (append-nil c.args.out.now.items);
  read = refl;
  left = refl;
  skips = omega arith;
  short = omega arith;
}

pub loop-segment-preserved-then-branch : goal.loop-segment-preserved-then-branch
loop-segment-preserved-then-branch g c =
    read_more _ _ _ _ _ c.in-Some.segment.now c.in-Some.after.now _ _ true c.loop-segment.invariant
    c.in-Some.ensures.some c.in-Some.ensures.shorter c.in_ok-read_segment.ensures.added
    (sym c.if-branch.true ∙ c.in_ok-read_segment.ensures.skips) (omega arith)

pub loop-segment-preserved : goal.loop-segment-preserved
loop-segment-preserved g c =
    read_more _ _ _ _ _ c.in-Some.segment.now c.in-Some.after.now _ _ false c.loop-segment.invariant
    c.in-Some.ensures.some c.in-Some.ensures.shorter c.in_ok-read_segment.ensures.added
    (sym c.if-branch.false ∙ c.in_ok-read_segment.ensures.skips) (omega arith)
