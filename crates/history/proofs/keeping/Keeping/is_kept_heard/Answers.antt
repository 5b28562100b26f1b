use Rattle.history.proofs.keeping.Keeping.is_kept_heard.Goals as goal
use Rattle.history.proofs.KeptLines.{heard_is, none_heard}
use Rattle.history.proofs.Words.{Some, true, ◌≡◌}
use Rattle.history.specs.{Entry.is_message, Keeping.kept_by}
use Rattle.std.proofs.Common.{ap, rules, sym, ◌∙◌, ◌∷◌}

pub returns-then-not-is_message : goal.returns-then-not-is_message
returns-then-not-is_message g c = λ time.
    sym (none_heard (kept_by c.args.self.now) time c.args.line.now
    (sym c.is_message.ensures ∙ c.if-not-is_message.true))

pub returns-in-Some-Some-Some-Some : goal.returns-in-Some-Some-Some-Some
returns-in-Some-Some-Some-Some g c = λ time.
    let here = c.in-Some-Some-Some-Some in
    let message : is_message c.args.line.now ≡ true = search rules in
    let from : c.args.line.now.source ≡ Some here.source.now = search rules in
    rw (
      heard_is (kept_by c.args.self.now) c.args.line.now here.target.now here.text.now
          c.next-2.new.self message (sym c.params-params.ensures ∙ here.ensures''.steps
          ∙ ap (λ ps. here.target.now ∷ ps) here.ensures'''.steps) time here.source.now from,
      ← c.command.ensures.value,
    ) c.keeps_from.ensures
