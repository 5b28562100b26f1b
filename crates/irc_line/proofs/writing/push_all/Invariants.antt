use Rattle.irc_line.proofs.writing.push_all.Given as goal
use Rattle.{irc_line.specs.Writing.param_text, std.proofs.Common.{List, length, ℕ, ◌++◌, ◌≡◌}}
use Rattle.std.specs.{List.flat_map, Prelude.map}

abbrev pub invariant-loop-rest : goal.invariant-loop-rest
invariant-loop-rest g l = (done : List ℕ) × record {
  added : l.out.items ≡ l.fn.out.items ++ done;
  all : done ++ flat_map param_text (map (λ p. p.now) l.rest)
      ≡ flat_map param_text (map (λ p. p.now) l.fn.params);
}

abbrev pub decreases-loop-rest : goal.decreases-loop-rest
decreases-loop-rest g l = length l.rest
