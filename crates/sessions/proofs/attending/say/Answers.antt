use Rattle.sessions.proofs.attending.say.Goals as goal
use Rattle.sessions.proofs.Said.{leaves_by}

pub returns-clause-quit : goal.returns-clause-quit
returns-clause-quit g c =
    rw c.leave_by.ensures (leaves_by g.O.Outlet.alone c.args.hub.now c.args.id c.args.line.now
    c.args.moment.0 c.said.result c.said.new.self c.said.ensures)
