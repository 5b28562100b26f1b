use Rattle.tape_view.proofs.Words.{arith}
use Rattle.tape_view.proofs.tape.Tape.says_fact.Goals as goal

pub returns-in-Account : goal.returns-in-Account
returns-in-Account g c us marked = search (arith, c.says_account.ensures, c.in-Account.is)

pub returns-in-Away : goal.returns-in-Away
returns-in-Away g c us marked = search (arith, c.says_away.ensures, c.in-Away.is)
