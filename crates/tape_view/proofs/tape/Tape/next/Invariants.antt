use Rattle.tape_view.proofs.tape.Tape.next.Given as goal
use Rattle.{std.proofs.Common.option_map, tape_view.proofs.{NextKey.IsNextSoFar, Words.bytes_cmp}}
use Rattle.tape_view.proofs.Words.{is_there, key_in, length}

abbrev pub invariant-loop-said : goal.invariant-loop-said
invariant-loop-said g l =
    IsNextSoFar bytes_cmp (λ tape. is_there tape l.table) l.self l.tape
    (key_in l.self.settings (option_map (λ a. a.now) l.after))
    (key_in l.self.settings (option_map (λ b. b.now) l.best))

abbrev pub decreases-loop-said : goal.decreases-loop-said
decreases-loop-said g l = length l.tape.readings
