use Rattle.std.proofs.Common.{◌≡◌, ◌≤◌}
use Rattle.shell.specs.NickCut.{last_begin}
use Rattle.shell.proofs.nick_cut.last_begin.Given as goal

abbrev pub invariant-loop-found : goal.invariant-loop-found
invariant-loop-found l =
    (l.found ≤ l.place) × (last_begin l.nick l.found ≡ last_begin l.nick l.place)

abbrev pub decreases-loop-found : goal.decreases-loop-found
decreases-loop-found l = l.found
