use Rattle.irc_line.proofs.scan.nth_param.Given as goal
use Rattle.{irc_line.specs.Reading.params_at, std.proofs.Common.{false, ◌-◌, ◌≡◌}}
use Rattle.std.specs.Prelude.{slice_get}

abbrev pub invariant-loop : goal.invariant-loop
invariant-loop l =
    slice_get (params_at false l.rest) (l.place - l.counter)
    ≡ slice_get (params_at false l.fn.text) l.place
