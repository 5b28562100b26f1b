use Rattle.welcome.proofs.settings.push_settings.Given as goal
use Rattle.welcome.proofs.{TokenRows.{IsTaking, settings_row}, Words.{◌++◌, flat_map, is_token_row}}
use Rattle.welcome.proofs.Words.{map, rows_of, written}

abbrev pub invariant-loop-place : goal.invariant-loop-place
invariant-loop-place g l =
    let line = settings_row l.nick in
    IsTaking (λ t. t.items) l.tokens.items line (l.fn.text.items ++ flat_map written (map line
    (rows_of is_token_row (map (λ t. t.items) l.tokens.items)))) l.text.items l.start l.place l.len
