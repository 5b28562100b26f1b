use Rattle.upstream.proofs.account.AccountLogin.is_logged_in.Goals as goal

pub returns : goal.returns
returns c = λ account lines known. c.is_logged_in.ensures account lines known.taken
