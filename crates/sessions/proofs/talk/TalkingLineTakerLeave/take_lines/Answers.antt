use Rattle.sessions.proofs.talk.TalkingLineTakerLeave.take_lines.Goals as goal
use Rattle.{sessions.proofs.Heard.{said_last, said_on}, std.proofs.Common.{◌∙◌, ◌≡◌}}

pub returns-clause-goes_on : goal.returns-clause-goes_on
returns-clause-goes_on g c began before k =
    let now = c.say_all.new.self.watcher in
    said_on ((now.ghost_name ≡ began.watcher.ghost_name)
    × (g.X.Watcher.session now.now ≡ g.X.Watcher.session began.watcher.now))
    before c.args.lines.items c.say_all.result k.0
    (rw c.as_slice.ensures.value at c.say_all.ensures.said)
    (c.say_all.ensures.reference ∙ k.1.0, c.say_all.ensures.session ∙ k.1.1)

pub returns-clause-ends : goal.returns-clause-ends
returns-clause-ends g c began before k =
    let now = c.say_all.new.self.watcher in
    said_last ((now.ghost_name ≡ began.watcher.ghost_name)
    × (g.X.Watcher.session now.now ≡ g.X.Watcher.session began.watcher.now))
    before c.args.lines.items c.say_all.result k.0
    (rw c.as_slice.ensures.value at c.say_all.ensures.said)
    (c.say_all.ensures.reference ∙ k.1.0, c.say_all.ensures.session ∙ k.1.1)
