use Rattle.quick_view.proofs.moding.change_modes.Goals as goal
use Rattle.net_view.specs.{Modes.setting_of, StateLines.mode_change}
use Rattle.{irc_support.specs.ChangeShown.shown_change, quick_view.proofs.LastLemmas.last_more}

pub loop-change-init : goal.loop-change-init
loop-change-init g c = λ letter.
    rw (c.into_iter-change-iterator.ensures.into_iter_gives, c.changes-change-items.ensures)

pub loop-change-preserved : goal.loop-change-preserved
loop-change-preserved g c = λ letter.
    rw (c.loop-change.invariant letter, c.in-Some.ensures.steps)
    (last_more (setting_of letter) (mode_change c.args.support.now) (shown_change c.in-Some.change)
    c.next.new.self _ _ (c.in_ok-change_mode.ensures letter))

pub returns : goal.returns
returns g c = λ letter. rw (c.loop-change.invariant letter, (c.in-None.ensures.steps).0)
