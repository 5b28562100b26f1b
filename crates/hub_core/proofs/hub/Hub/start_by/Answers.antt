use Rattle.hub_core.proofs.Kept.{kept_before}
use Rattle.hub_core.proofs.Words.{subst, sym}
use Rattle.history.specs.Messages.{AreKeptBefore}
use Rattle.hub_core.proofs.hub.Hub.start_by.Goals as goal

pub begin-requires-clause-kept : goal.begin-requires-clause-kept
begin-requires-clause-kept g c =
    subst (AreKeptBefore c.args.setup.first_number) (sym c.in_ok-history.ensures.made)
    (kept_before c.args.setup.history c.args.setup.first_number)
