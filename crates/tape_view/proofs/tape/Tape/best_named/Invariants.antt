use Rattle.tape_view.proofs.tape.Tape.best_named.Given as goal
use Rattle.tape_view.proofs.Words.{Bor, Option, Text, considered, filter_map, is_there, key_in}
use Rattle.tape_view.{proofs.Words.{listing, map, option_map, ◌≡◌}, specs.Places.keys_listed}

abbrev pub invariant-loop-ranks : goal.invariant-loop-ranks
invariant-loop-ranks g l =
    let s = l.self.settings in
    let so_far = λ (best : Option (Bor Text)). considered (is_there l.self l.table)
    (key_in s (option_map (λ a. a.now) l.after)) (key_in s (option_map (λ b. b.now) best)) in
    so_far l.initial.best (keys_listed s l.line)
    ≡ so_far l.best (map (λ w. w.person.key) (filter_map (listing s) l._ranks-iterator))
