use Rattle.quick_view.proofs.state.State.take_quit.Goals as goal
use Rattle.net_view.specs.{Changes.without_member, Names.bytes_cmp, Told.Quits}
use Rattle.net_view.proofs.{AfterQuit.after_quit, Emptied.emptied}
use Rattle.{network_tables.proofs.ShownLemmas.get-shown, quick_view.specs.Kept.view_kept}
use Rattle.{irc_support.specs.Settings.key_by, std.proofs.Common.{sym, ◌∙◌}}

pub returns-then-is_us : goal.returns-then-is_us
returns-then-is_us g c = λ sound sets.
    let v = view_kept c.args.self.now in
    c.lose.ensures ∙ sym (emptied v (Quits (key_by v.settings c.args.who.now))
    (λ d. rw c.is_us.ensures at c.if-is_us.true))

pub returns-else-is_us : goal.returns-else-is_us
returns-else-is_us g c = λ sound sets.
    let v = view_kept c.args.self.now in
    let n = key_by v.settings c.args.who.now in
    c.quit.ensures ∙ sym (after_quit v sets sound.known n (rw c.is_us.ensures at c.if-is_us.false) _
    (get-shown bytes_cmp (without_member n) v.channels))
