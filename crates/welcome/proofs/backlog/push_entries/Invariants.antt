use Rattle.welcome.proofs.backlog.push_entries.Given as goal
use Rattle.welcome.proofs.Words.{◌++◌, ◌≡◌, entry_line, flat_map, map, option_map, option_to_list}
use Rattle.welcome.proofs.Words.{take, written}

abbrev pub invariant-loop-entry : goal.invariant-loop-entry
invariant-loop-entry g l =
    l.text.items ≡ l.fn.text.items ++ flat_map written (map (λ entry. entry_line l.caps
    (option_to_list (option_map (λ t. t.now) l.batch)) entry.now) (take l.entry-index l.entries))
