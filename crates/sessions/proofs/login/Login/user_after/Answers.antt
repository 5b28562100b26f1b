use Rattle.sessions.proofs.login.Login.user_after.Goals as goal
use Rattle.{sessions.{proofs.LookedBack.last_more, specs.Given.given}, std.proofs.Common.codes}

pub returns : goal.returns
returns c = λ before at.
    let so_far = rw (← c.self.view_is) at at.user in
    rw (c.latest.ensures, so_far, last_more (given (codes "USER")) before c.args.line.now)
