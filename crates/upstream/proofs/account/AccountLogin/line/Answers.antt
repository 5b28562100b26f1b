use Rattle.upstream.proofs.OfferLemmas.{login_offered_more}
use Rattle.upstream.proofs.account.AccountLogin.line.Goals as goal

pub returns-in-LastList-clause-taken : goal.returns-in-LastList-clause-taken
returns-in-LastList-clause-taken c = λ account before known. record {
  taken = c.in_ok-step.ensures.taken account before known.taken;
  offered = rw (
    login_offered_more account before c.args.line.now,
    ← known.offered,
    ← c.is_offered_by.ensures account before known,
  );
}

pub returns-in_default-clause-taken : goal.returns-in_default-clause-taken
returns-in_default-clause-taken c = λ account before known. record {
  taken = c.in_ok-step.ensures.taken account before known.taken;
  offered = rw (
    login_offered_more account before c.args.line.now,
    ← known.offered,
    ← c.is_offered_by.ensures account before known,
  );
}
