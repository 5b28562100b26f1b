use Rattle.history.proofs.entry.Entry.of_said_in.Goals as goal
use Rattle.history.proofs.Messages.{message_is, written_entry, written_in}
use Rattle.history.specs.{Entry.{IsWrittenEntry, in_ring}}
use Rattle.std.proofs.Common.{Some, ap, option_map, rules, subst, sym, ◌∙◌, ◌∷◌}

pub returns-in_ok-entry-in-Some-Some-clause-written :
    goal.returns-in_ok-entry-in-Some-Some-clause-written
returns-in_ok-entry-in-Some-Some-clause-written g c =
    subst IsWrittenEntry (sym c.in_ok-entry-in-Some-Some.ensures)
    (written_in (option_map (λ n. n.now) c.args.ring) _
    (written_entry c.args.line.now c.args.time.now c.args.source.now c.command-command.result.now
    c.in-Some-Some.target.now c.in-Some-Some.text.now c.next-2.new.self (search rules)
    c.command-command.ensures.value
    (sym c.params-params.ensures ∙ c.in-Some-Some.ensures.steps
    ∙ ap (λ ps. c.in-Some-Some.target.now ∷ ps) c.in-Some-Some.ensures'.steps)
    c.command-command.ensures.writable c.requires.source c.requires.time))

pub returns-in_ok-entry-in-Some-Some-clause-made : goal.returns-in_ok-entry-in-Some-Some-clause-made
returns-in_ok-entry-in-Some-Some-clause-made g c =
    ap Some c.in_ok-entry-in-Some-Some.ensures
    ∙ ap (option_map (in_ring (option_map (λ n. n.now) c.args.ring)))
    (sym (message_is c.args.line.now c.args.time.now c.args.source.now
    c.command-command.result.now c.in-Some-Some.target.now c.in-Some-Some.text.now
    c.next-2.new.self (search rules) c.command-command.ensures.value
    (sym c.params-params.ensures ∙ c.in-Some-Some.ensures.steps
    ∙ ap (λ ps. c.in-Some-Some.target.now ∷ ps) c.in-Some-Some.ensures'.steps)))
