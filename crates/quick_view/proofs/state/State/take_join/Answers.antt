use Rattle.quick_view.proofs.state.State.take_join.Goals as goal
use Rattle.net_view.proofs.AfterJoin.{after_join, after_own_join, after_void_join}
use Rattle.{net_view.specs.Changes.readied, quick_view.proofs.TakeLemmas.{on_ok, own_there}}
use Rattle.{quick_view.specs.Kept.view_kept, std.proofs.Common.{◌∙◌, ap, sym}}

pub returns-then-not-is_us-clause-taken : goal.returns-then-not-is_us-clause-taken
returns-then-not-is_us-clause-taken g c =
    on_ok c.join_and_settle.result c.join_and_settle.ensures.taken (λ e sound sets.
    e ∙ sym (after_join _ _ _ _ _ (rw c.is_us.ensures at c.if-not-is_us.true) sets sound.known))

pub returns-then-not-is_channel-clause-taken : goal.returns-then-not-is_channel-clause-taken
returns-then-not-is_channel-clause-taken g c =
    on_ok c.join_and_settle-then-not-is_channel.result
    c.join_and_settle-then-not-is_channel.ensures.taken (λ e sound sets.
    let ours = rw c.is_us.ensures at c.if-not-is_us.false in
    let void = rw c.is_channel.ensures at c.if-not-is_channel.true in
    e ∙ sym (after_void_join _ _ _ _ _ (ours, void) sets sound.known
    (λ ch at. own_there _ sound _ _ ch at ours)))

pub returns-clause-taken : goal.returns-clause-taken
returns-clause-taken g c = λ sound sets.
    rw (← c.is_channel.ensures, c.if-not-is_channel.false)
    (c.settle.ensures ∙ ap readied (c.in_ok-enter.ensures.taken sound.known)
    ∙ sym (after_own_join (view_kept c.args.self.now) sets sound.known _ _ _
    (rw c.is_us.ensures at c.if-not-is_us.false)))
