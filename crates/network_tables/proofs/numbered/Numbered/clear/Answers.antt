use Rattle.network_tables.proofs.numbered.Numbered.clear.Goals as goal
use Rattle.network_tables.proofs.NumberedLemmas.{none_tied, none_weighs}
use Rattle.std.proofs.Common.{arith, rules}

pub invariant_of-self : goal.invariant_of-self
invariant_of-self g c = record {
  tied =
      none_tied _ _ c.clear.ensures
      (λ n. grind (arith, c.shrink_to_fit.ensures.values, c.clear-2.ensures.empty));
  index_room = omega arith;
  cell_room = search rules;
  weighs = none_weighs _ _ _ c.clear.ensures;
}
