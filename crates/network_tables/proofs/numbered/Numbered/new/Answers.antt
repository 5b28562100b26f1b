use Rattle.network_tables.proofs.numbered.Numbered.new.Goals as goal
use Rattle.network_tables.proofs.NumberedLemmas.{none_tied, none_weighs}
use Rattle.std.proofs.Common.{arith, rules}

pub invariant_of-result : goal.invariant_of-result
invariant_of-result g c = record {
  tied =
      none_tied _ _ c.new.ensures
      (λ n. grind (arith, c.new-2.ensures.empty));
  index_room = omega arith;
  cell_room = search rules;
  weighs = none_weighs _ _ _ c.new.ensures;
}
