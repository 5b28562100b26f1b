use Rattle.welcome.proofs.backlog.push_stamped.Given as goal
use Rattle.welcome.proofs.Words.{◌++◌, ◌≡◌, None, drop, entry_line, flat_map, map, option_map}
use Rattle.welcome.proofs.Words.{option_to_list, written}
use Rattle.welcome.specs.Times.{stamped_from}

-- what is said and what is left to say is what is to be said
abbrev pub invariant-loop-entry : goal.invariant-loop-entry
invariant-loop-entry g l =
    l.text.items ++ flat_map written (map (entry_line l.caps
    (option_to_list (option_map (λ t. t.now) l.batch))) (stamped_from l.offset l.before
    (map (λ entry. entry.now) (drop l.entry-index l.entries))))
    ≡ l.fn.text.items ++ flat_map written (map (entry_line l.caps
    (option_to_list (option_map (λ t. t.now) l.batch))) (stamped_from l.offset None
    (map (λ entry. entry.now) l.entries)))
