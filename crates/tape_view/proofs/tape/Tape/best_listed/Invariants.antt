use Rattle.tape_view.proofs.tape.Tape.best_listed.Given as goal
use Rattle.tape_view.proofs.{PlacedKeys.letters, Words.{considered_by, is_set, key, nat_cmp, ◌≡◌}}
use Rattle.tape_view.specs.Letters.{letters_listed}

abbrev pub invariant-loop-change : goal.invariant-loop-change
invariant-loop-change g l =
    let so_far = considered_by nat_cmp (is_set l.self.readings (key l.self l.channel)) l.after in
    so_far l.fn.best (letters_listed l.self.settings l.line)
    ≡ so_far l.best (letters l.change-iterator)
