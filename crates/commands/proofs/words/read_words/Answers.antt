use Rattle.commands.proofs.words.read_words.Goals as goal
use Rattle.clap.specs.Words.{Text, app_of, found_of, is_simple, is_simple_and_free, kind_of}
use Rattle.{clap.specs.Words.rows_of, commands.proofs.WordsLemmas.{asked_at, cause_at}}
use Rattle.commands.proofs.WordsLemmas.{is_free-bnc_app, is_simple-bnc_app, words_ask, words_cause}
use Rattle.std.proofs.Common.{◌∙◌, Bor, List, ap, map, ℕ}

pub returns-in-Some : goal.returns-in-Some
returns-in-Some c =
    let words : List Text = map (λ (w : Bor (List ℕ)). w.now) c.args.words.now in
    let rows = rows_of (found_of c.in-Some.inner.now) in
    let simple = ap is_simple c.in_ok-grammar.ensures ∙ is_simple-bnc_app in
    let asked = asked_at (app_of c.in_ok-grammar.field-0) words _ _ _ _ rows
    c.in_ok-grammar.ensures (c.in-Ok.ensures.matches simple).1 c.in-Some.ensures.name
    c.in-Some.ensures.rows in
    record {
      read = words_ask words _ rows c.read_command.result asked c.read_command.ensures.read;
      refused = words_cause words _ rows c.read_command.result asked c.read_command.ensures.refused;
    }

pub returns-in-Err-clause-refused : goal.returns-in-Err-clause-refused
returns-in-Err-clause-refused c =
    let words : List Text = map (λ (w : Bor (List ℕ)). w.now) c.args.words.now in
    let kinds =
    c.in-Err.ensures.kinds (ap is_simple_and_free c.in_ok-grammar.ensures ∙ is_free-bnc_app) in
    cause_at (app_of c.in_ok-grammar.field-0) words (kind_of c.in-Err.error) c.fault_of.result
    c.in_ok-grammar.ensures kinds c.fault_of.ensures
