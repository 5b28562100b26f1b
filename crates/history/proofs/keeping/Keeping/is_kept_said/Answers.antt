use Rattle.history.proofs.keeping.Keeping.is_kept_said.Goals as goal
use Rattle.history.proofs.KeptLines.{said_is}
use Rattle.history.proofs.Words.{true, ◌≡◌}
use Rattle.history.specs.{Entry.is_message, Keeping.kept_by}
use Rattle.std.proofs.Common.{ap, option_map, rules, sym, ◌∙◌, ◌∷◌}

pub returns-in-Some-Some : goal.returns-in-Some-Some
returns-in-Some-Some g c =
    let here = c.in-Some-Some in
    let message : is_message c.args.line.now ≡ true = search rules in
    rw (said_is (kept_by c.args.self.now) c.args.line.now here.target.now here.text.now
    c.next-2.new.self message (sym c.params-params.ensures ∙ here.ensures.steps
    ∙ ap (λ ps. here.target.now ∷ ps) here.ensures'.steps)
    (option_map (λ n. n.now) c.args.own) c.args.mapping) c.keeps_said.ensures
