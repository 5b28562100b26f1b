use Rattle.tape_view.proofs.tape.Tape.at.Given as goal
use Rattle.{std.proofs.Common.option_map, tape_view.proofs.Words.{key_at, key_in, ◌≡◌}}

abbrev pub invariant-loop-place : goal.invariant-loop-place
invariant-loop-place g l =
    key_in l.self.settings (option_map (λ n. n.now) l.at) ≡ key_at l.self l.table l._place
