use Rattle.sessions.proofs.talk.Talking.say_all.Given as goal
use Rattle.{sessions.specs.Leaving.has_quit, std.proofs.Common.{false, take, ◌≡◌}}

-- none of the lines so far was a QUIT, and the watcher is the same, with the same session
abbrev pub invariant-loop-line : goal.invariant-loop-line
invariant-loop-line g l = record {
  said : has_quit (take l.line-index l.lines) ≡ false;
  reference : l.self.watcher.ghost_name ≡ l.fn.self.watcher.ghost_name;
  session : g.X.Watcher.session l.self.watcher.now ≡ g.X.Watcher.session l.fn.self.watcher.now;
}
