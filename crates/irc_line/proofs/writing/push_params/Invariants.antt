use Rattle.irc_line.proofs.writing.push_params.Given as goal
use Rattle.{irc_line.specs.{Reading.params_at, Writing.param_text}, std.proofs.Common.{List, false}}
use Rattle.std.{proofs.Common.{length, ℕ, ◌++◌, ◌≡◌}, specs.List.flat_map}

abbrev pub invariant-loop-param : goal.invariant-loop-param
invariant-loop-param g l = (done : List ℕ) × record {
  added : l.out.items ≡ l.fn.out.items ++ done;
  all : done ++ flat_map param_text (params_at false l.rest)
      ≡ flat_map param_text (params_at false l.fn.text);
}

abbrev pub decreases-loop-param : goal.decreases-loop-param
decreases-loop-param g l = length l.rest
