use Rattle.sessions.proofs.login.Login.has_nick_after.Goals as goal
use Rattle.sessions.proofs.LookedBack.{nick_more, some_mapped}

pub returns-then-self : goal.returns-then-self
returns-then-self c = λ before at.
    let had = rw (← c.self.view_is) at at.nick in
    rw (nick_more before c.args.line.now, ← had, c.if-self.true)

pub returns-else-self : goal.returns-else-self
returns-else-self c = λ before at.
    let had = rw (← c.self.view_is) at at.nick in
    rw (nick_more before c.args.line.now, ← had, c.if-self.false, ← c.given.ensures, some_mapped)
    c.is_some.ensures
