use Rattle.quick_view.proofs.state.State.take_part.Goals as goal
use Rattle.net_view.proofs.AfterPart.{after_own_part, after_part}
use Rattle.std.proofs.Common.{sym, ◌∙◌}

pub returns-then-is_us : goal.returns-then-is_us
returns-then-is_us g c = λ sound sets.
    c.leave.ensures sound.known
    ∙ sym (after_own_part _ _ _ (rw c.is_us.ensures at c.if-is_us.true) sets sound.known)

pub returns-else-is_us : goal.returns-else-is_us
returns-else-is_us g c = λ sound sets.
    c.part.ensures
    ∙ sym (after_part _ _ _ (rw c.is_us.ensures at c.if-is_us.false) sets sound.known)
