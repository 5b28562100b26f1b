use Rattle.std.proofs.Common.{inl, sym, ap, ◌∙◌, List, ℕ, map, Bor}
use Rattle.clap.specs.Words.{App, Text, app_of, fault_of, is_simple_and_free, kind_of}
use Rattle.commands.proofs.WordsLemmas.{explained_at, is_free-bnc_app}
use Rattle.irc_line.proofs.Outcomes.{no_value}
use Rattle.commands.proofs.words.explain_words.Goals as goal

pub returns-in_err-grammar : goal.returns-in_err-grammar
returns-in_err-grammar c = no_value _ c.from_residual.result c.from_residual.ensures.0

pub returns-in-Ok : goal.returns-in-Ok
returns-in-Ok c =
    let words : List Text = map (λ (w : Bor (List ℕ)). w.now) c.args.words.now in
    let free = ap is_simple_and_free c.in_ok-grammar.ensures ∙ is_free-bnc_app in
    inl (ap (λ (a : App). fault_of a words) (sym c.in_ok-grammar.ensures)
    ∙ c.in-Ok.ensures.kinds free)

pub returns : goal.returns
returns c =
    let words : List Text = map (λ (w : Bor (List ℕ)). w.now) c.args.words.now in
    let free = ap is_simple_and_free c.in_ok-grammar.ensures ∙ is_free-bnc_app in
    explained_at (app_of c.in_ok-grammar.field-0) words (kind_of c.in-Err.error)
    c.explained.result c.in_ok-grammar.ensures (c.in-Err.ensures.kinds free)
    c.explained.ensures.text c.explained.ensures.fault
