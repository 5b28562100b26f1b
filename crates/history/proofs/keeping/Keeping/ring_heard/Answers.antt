use Rattle.history.proofs.keeping.Keeping.ring_heard.Goals as goal
use Rattle.history.proofs.KeptLines.{no_ring, ring_is}
use Rattle.history.proofs.Words.{Some, true, ◌≡◌}
use Rattle.history.specs.{Entry.is_message, Keeping.kept_by}
use Rattle.{irc_line.specs.Line.nick_of, std.proofs.Common.{ap, rules, sym, ◌∙◌, ◌∷◌}}

pub returns-then-not-is_message : goal.returns-then-not-is_message
returns-then-not-is_message g c = λ time.
    sym (no_ring (kept_by c.args.self.now) time c.args.line.now
    (sym c.is_message.ensures ∙ c.if-not-is_message.true))

pub returns-in-Some-Some-Some-Some : goal.returns-in-Some-Some-Some-Some
returns-in-Some-Some-Some-Some g c = λ time.
    let here = c.in-Some-Some-Some-Some in
    let message : is_message c.args.line.now ≡ true = search rules in
    let from : c.args.line.now.source ≡ Some here.field-0-0.now = search rules in
    let nick : here.nick.now ≡ nick_of here.field-0-0.now = search rules in
    rw (
      ring_is (kept_by c.args.self.now) c.args.line.now here.target.now here.field-0-3.now
          c.next-2.new.self message (sym c.params-params.ensures ∙ here.ensures''.steps
          ∙ ap (λ ps. here.target.now ∷ ps) here.ensures'''.steps) time here.field-0-0.now from,
      ← nick,
    ) c.ring_of.ensures
