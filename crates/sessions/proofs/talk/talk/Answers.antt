use Rattle.sessions.proofs.talk.talk.Goals as goal
use Rattle.sessions.proofs.Heard.{heard_unread, kept_meanwhile, left_unread, was_heard}
use Rattle.{sessions.specs.Leaving.WereSaid, std.proofs.Common.{◌∙◌, ◌≡◌, Some, subst}}

pub returns-in-Some-clause-heard : goal.returns-in-Some-clause-heard
returns-in-Some-clause-heard g c =
    left_unread c.in-Some.why (subst (λ l. WereSaid l (Some c.in-Some.why))
    c.as_slice.ensures.value c.in-Some.ensures.said)

pub returns-in_default-vec-clause-heard : goal.returns-in_default-vec-clause-heard
returns-in_default-vec-clause-heard g c =
    heard_unread _ (rw c.as_slice.ensures.value at c.in_default.ensures.said)

-- the watcher is the same, and has the same session
pub returns-clause-heard : goal.returns-clause-heard
returns-clause-heard g c =
    let old = c.say_all.new.self.watcher in
    let now = c.read_lines.new.taker.watcher in
    rw c.leave_at.ensures (was_heard ((now.ghost_name ≡ old.ghost_name)
    × (g.X.Watcher.session now.now ≡ g.X.Watcher.session old.now)) c.read_lines.new.splitter
    c.read_lines.result (rw c.as_slice.ensures.value at c.in_default.ensures.said)
    c.read_lines.ensures)

pub returns-clause-reference : goal.returns-clause-reference
returns-clause-reference g c =
    let old = c.say_all.new.self.watcher in
    let now = c.read_lines.new.taker.watcher in
    (kept_meanwhile ((now.ghost_name ≡ old.ghost_name)
    × (g.X.Watcher.session now.now ≡ g.X.Watcher.session old.now)) _ _ _ _ c.read_lines.result
    c.read_lines.ensures).0 ∙ c.in_default.ensures.reference

pub returns-clause-session : goal.returns-clause-session
returns-clause-session g c =
    let old = c.say_all.new.self.watcher in
    let now = c.read_lines.new.taker.watcher in
    (kept_meanwhile ((now.ghost_name ≡ old.ghost_name)
    × (g.X.Watcher.session now.now ≡ g.X.Watcher.session old.now)) _ _ _ _ c.read_lines.result
    c.read_lines.ensures).1 ∙ c.in_default.ensures.session
