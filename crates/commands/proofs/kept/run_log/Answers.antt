use Rattle.std.proofs.Common.{rules, ◌∙◌, sym}
use Rattle.commands.proofs.kept.run_log.Goals as goal
use Rattle.commands.proofs.LogLemmas.{is_log}

pub returns-in-Ok-clause-written : goal.returns-in-Ok-clause-written
returns-in-Ok-clause-written g c = (
  c.in_ok-text.text.items,
  search rules,
  is_log _ _ c.in_ok-recalled.recalled _ c.in_ok-recalled.ensures.recalled c.in_ok-text.ensures
      (sym c.if-count-eq0.true ∙ c.damaged-count.ensures),
)

pub returns-in-Ok-2-clause-refused : goal.returns-in-Ok-2-clause-refused
returns-in-Ok-2-clause-refused g c = (
  c.in_ok-text.text.items,
  search rules,
  is_log _ _ c.in_ok-recalled.recalled _ c.in_ok-recalled.ensures.recalled c.in_ok-text.ensures
      c.damaged-count.ensures,
  search rules,
)
