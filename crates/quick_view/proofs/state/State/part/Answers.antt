use Rattle.quick_view.proofs.ViewLemmas.{parted_nobody}
use Rattle.quick_view.proofs.state.State.part.Goals as goal

pub returns-then-not-unseat : goal.returns-then-not-unseat
returns-then-not-unseat g c =
    rw (← c.mapping-mapping.ensures) (parted_nobody _ _ _ _ c.unseat.ensures.left
    (rw c.unseat.ensures.was at c.if-not-unseat.true))
