use Rattle.sasl.specs.declared.said.Said.TheVariants as says
use Rattle.irc_line.proofs.Outcomes.{ok_more}
use Rattle.sasl.proofs.Asked.{after_acknowledged, after_failed, after_go, after_logged_in}
use Rattle.sasl.proofs.Asked.{after_other, taken_more}
use Rattle.sasl.proofs.login.Login.line.Goals as goal
use Rattle.std.proofs.Common.{◌∙◌}

pub returns-in-Acknowledged-clause-taken : goal.returns-in-Acknowledged-clause-taken
returns-in-Acknowledged-clause-taken c = λ account before taken.
    ok_more _ _ c.ask.result
    (λ _ same. taken_more account before c.args.line.now says.Acknowledged c.args.self.now c.ask.new.self
    taken c.in-Acknowledged.ensures (same ∙ after_acknowledged c.args.self.now))
    c.ask.ensures.taken

pub returns-in-Go-clause-taken : goal.returns-in-Go-clause-taken
returns-in-Go-clause-taken c = λ account before taken.
    ok_more _ _ c.respond.result
    (λ _ same. taken_more account before c.args.line.now says.Go c.args.self.now c.respond.new.self
    taken c.in-Go.ensures (same ∙ after_go c.args.self.now))
    c.respond.ensures.taken

pub returns-in-LoggedIn-clause-taken : goal.returns-in-LoggedIn-clause-taken
returns-in-LoggedIn-clause-taken c = λ account before taken.
    ok_more _ _ c.end.result
    (λ _ same. taken_more account before c.args.line.now says.LoggedIn c.args.self.now c.end.new.self
    taken c.in-LoggedIn.ensures (same ∙ after_logged_in c.args.self.now))
    c.end.ensures.taken

pub returns-in-Failed-clause-taken : goal.returns-in-Failed-clause-taken
returns-in-Failed-clause-taken c = λ account before taken.
    taken_more account before c.args.line.now says.Failed c.args.self.now c.args.self.now taken
    c.in-Failed.ensures (after_failed c.args.self.now)

pub returns-in-Other-clause-taken : goal.returns-in-Other-clause-taken
returns-in-Other-clause-taken c = λ account before taken.
    taken_more account before c.args.line.now says.Other c.args.self.now c.args.self.now taken
    c.in-Other.ensures (after_other c.args.self.now)
