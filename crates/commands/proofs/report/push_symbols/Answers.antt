use Rattle.commands.proofs.report.push_symbols.Goals as goal
use Rattle.commands.proofs.MemberLemmas.{rank_passed, ranks_all}
use Rattle.commands.proofs.report.push_symbols.Goals.{else-has, then-has+in-Some+in_ok-push}
use Rattle.{commands.proofs.report.push_symbols.Goals.then-has+in_default, std.proofs.Common.◌<◌}
use Rattle.std.proofs.Common.{◌∙◌, ◌≡◌, None, Some, append-nil, arith, false, refl, sym, true}

pub loop-rank-preserved : goal.loop-rank-preserved
loop-rank-preserved g c =
    let settings = (g.V.NetworkView.view c.args.view.now).settings in
    let ranks = c.args.member.now.ranks in
    let rank = c.loop-rank.rank in
    let before = c.args.report.now.items in
    let now = c.loop-rank.report.items in
    let so_far = c.loop-rank.invariant.so_far in
    record {
      so_far = elim c.if-has.branch [
        | then-has+in-Some+in_ok-push w ↦
            rw (w.report-is, w.in_ok-push.ensures.items)
            (rank_passed settings ranks rank true (Some w.in-Some.symbol) before now
            (sym w.if-has.true ∙ c.has.ensures.value)
            (rw (← w.in-Some.is, ← w.support.ensures) w.symbol.ensures) so_far)
        | then-has+in_default w ↦
            rw (w.report-is, ← append-nil now)
            (rank_passed settings ranks rank true None before now
            (sym w.if-has.true ∙ c.has.ensures.value)
            (rw (← w.in_default.is, ← w.support.ensures) w.symbol.ensures) so_far)
        | else-has w ↦
            rw (w.report-is, ← append-nil now)
            (rank_passed settings ranks rank false _ before now
            (sym w.if-has.false ∙ c.has.ensures.value) refl so_far)
      ];
      set = λ _. c.has.ensures.set;
    }

pub returns : goal.returns
returns g c =
    let settings = (g.V.NetworkView.view c.args.view.now).settings in
    let ranks = c.args.member.now.ranks in
    let rank = c.loop-rank.rank in
    let last : rank ≡ 16 = omega (c.loop-rank-test.false, c.loop-rank.auto.rank-end, arith) in
    let some : 0 < rank = omega (last, arith) in
    rw (c.loop-rank.invariant.so_far, ranks_all ranks rank last (c.loop-rank.invariant.set some))
