use Rattle.irc_support.proofs.mode_changes.ModeChangesIterator.next.Given as goal
use Rattle.{irc_support.specs.ModeChanges.{signed, with_params}, std.proofs.Common.{length, ◌≡◌}}

abbrev pub invariant-loop-self : goal.invariant-loop-self
invariant-loop-self g l =
    let s = l.self-inside in
    let initial = l.initial.self-inside in
    with_params s.support.now (signed s.plus s.letters.now) s.params
    ≡ with_params initial.support.now (signed initial.plus initial.letters.now) initial.params

abbrev pub decreases-loop-self : goal.decreases-loop-self
decreases-loop-self g l = length l.self-inside.letters.now
