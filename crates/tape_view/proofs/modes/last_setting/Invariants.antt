use Rattle.tape_view.proofs.modes.last_setting.Given as goal
use Rattle.{std.proofs.Common.option_map, tape_view.proofs.{LineParts.sets, Words.changes_in}}
use Rattle.tape_view.proofs.Words.{last_in, option_or, ◌≡◌}

abbrev pub invariant-loop-change : goal.invariant-loop-change
invariant-loop-change g l =
    let set = sets l.support l.letter in
    last_in set (changes_in l.support l.line)
    ≡ option_or (last_in set l.change-iterator)
    (option_map (option_map (option_map (λ text. text.now))) l.last)
