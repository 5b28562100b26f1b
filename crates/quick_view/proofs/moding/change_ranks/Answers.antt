use Rattle.quick_view.proofs.moding.change_ranks.Goals as goal
use Rattle.std.specs.FinMap as fin
use Rattle.{irc_support.specs.ChangeShown.shown_change, net_view.specs.StateLines.letter_change}
use Rattle.quick_view.proofs.LastLemmas.{none_left, ranks_step, still_set}

pub loop-change-init : goal.loop-change-init
loop-change-init g c = λ sets n. (
  rw (c.into_iter-change-iterator.ensures.into_iter_gives, c.changes-change-items.ensures),
  sets n,
)

pub loop-change-preserved : goal.loop-change-preserved
loop-change-preserved g c = λ sets n.
    let find = letter_change c.args.support.now in
    let x = shown_change c.in-Some.change in
    let so_far = c.loop-change.invariant sets n in (
      rw (so_far.0, c.in-Some.ensures.steps)
          (ranks_step find n x c.next.new.self _ _ (c.change_rank.ensures n)),
      still_set (find x) n _ _ (c.change_rank.ensures n) (so_far.1),
    )

pub returns : goal.returns
returns g c = λ sets n.
    let so_far = c.loop-change.invariant sets n in
    let none = none_left n (fin.get c.loop-change.members.all n) (so_far.1) in
    rw (so_far.0, (c.in-None.ensures.steps).0, none)
