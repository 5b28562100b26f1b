use Rattle.irc_line.proofs.splitter.runs_over.Goals as goal
use Rattle.irc_line.proofs.Limit.{is_too_long-behind, over-last, over-none, over-short}
use Rattle.{irc_line.specs.Lines.line_limit, std.proofs.Common.{arith, length, sym, ◌-◌, ◌∙◌}}
use Rattle.std.proofs.{Common.{◌+◌, ◌≡◌, ◌≤◌}, lemmas.List.{length-take-le, take_rest}}

pub loop-room-init : goal.loop-room-init
loop-room-init c =
    let held : line_limit - (16384 - length c.args.rest.now) ≡ length c.args.rest.now =
    omega (arith, c.requires.short) in
    record {
      reach = omega arith;
      same = rw held (sym (is_too_long-behind c.args.rest.now c.args.piece.now c.requires.no_lf));
    }

pub returns : goal.returns
returns c =
    sym (over-short _ c.loop-room.left.now (omega (arith, c.loop-room-test.false)))
    ∙ c.loop-room.invariant.same

pub returns-in_default : goal.returns-in_default
returns-in_default c =
    sym (over-none _ _ c.loop-room.invariant.reach c.loop-room-test.true c.in_default.ensures)
    ∙ c.loop-room.invariant.same

pub loop-room-preserved : goal.loop-room-preserved
loop-room-preserved c =
    let near : c.in-Some.last ≤ c.loop-room.room =
    omega (
      arith,
      c.in-Some.ensures.0.high,
      length-take-le (c.loop-room.room + 1) c.loop-room.left.now (omega arith),
    ) in
    record {
      reach = omega arith;
      same =
          rw (take_rest c.loop-room.left.now (c.in-Some.last + 1))
          (over-last _ c.in-Some.last _ c.loop-room.invariant.reach near c.loop-room-test.true
          c.in-Some.ensures.1
          ∙ c.loop-room.invariant.same);
    }
