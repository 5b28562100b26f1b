use Rattle.commands.proofs.words.text_of.Goals as goal
use Rattle.clap.{proofs.WalkLemmas.first_value-rows, specs.Words.found_of}
use Rattle.std.proofs.Common.{Some, ap, sym, ◌∙◌}

pub returns-in_ok-from_str-in-Some-clause-read : goal.returns-in_ok-from_str-in-Some-clause-read
returns-in_ok-from_str-in-Some-clause-read c =
    sym (first_value-rows (found_of c.args.matches.now) c.args.id.now) ∙ sym c.in-Some.ensures
    ∙ ap Some (sym c.in_ok-from_str-in-Some.ensures.ok)

pub returns-in-None-clause-refused : goal.returns-in-None-clause-refused
returns-in-None-clause-refused c =
    sym (c.in-None.ensures ∙ first_value-rows (found_of c.args.matches.now) c.args.id.now)
