use Rattle.network_tables.proofs.numbered.Numbered.reserve.Goals as goal
use Rattle.network_tables.proofs.NumberedLemmas.{kept_joined, kept_tied}
use Rattle.std.proofs.Common.{arith, rules}

pub invariant_of-self-in_err-reserve-2 : goal.invariant_of-self-in_err-reserve-2
invariant_of-self-in_err-reserve-2 g c = record {
  tied =
      kept_tied _ _ _ _ c.reserve.ensures.all
      (λ n. rw c.reserve-then-self-more.ensures.rest_kept) c.self.invariant.tied;
  index_room = omega arith;
  cell_room = search rules;
  weighs =
      rw (kept_joined c.self.inside.index.all c.reserve.new.self.all c.self.inside.cells
      c.reserve-then-self-more.new.self c.reserve.ensures.all
      (λ n. rw c.reserve-then-self-more.ensures.rest_kept)) c.self.invariant.weighs;
}

pub invariant_of-self-then-self-more : goal.invariant_of-self-then-self-more
invariant_of-self-then-self-more g c = record {
  tied =
      kept_tied _ _ _ _ c.reserve.ensures.all
      (λ n. rw c.reserve-then-self-more.ensures.rest_kept) c.self.invariant.tied;
  index_room = c.in_ok-reserve.ensures.room;
  cell_room = search rules;
  weighs =
      rw (kept_joined c.self.inside.index.all c.reserve.new.self.all c.self.inside.cells
      c.reserve-then-self-more.new.self c.reserve.ensures.all
      (λ n. rw c.reserve-then-self-more.ensures.rest_kept)) c.self.invariant.weighs;
}

pub returns-in_err-reserve-2-clause-all : goal.returns-in_err-reserve-2-clause-all
returns-in_err-reserve-2-clause-all g c =
    rw (← c.self.view_is)
    (kept_joined _ _ _ _ c.reserve.ensures.all (λ n. rw c.reserve-then-self-more.ensures.rest_kept))

pub returns-in_ok-reserve-2-clause-all : goal.returns-in_ok-reserve-2-clause-all
returns-in_ok-reserve-2-clause-all g c =
    rw (← c.self.view_is)
    (kept_joined _ _ _ _ c.reserve.ensures.all (λ n. rw c.reserve-then-self-more.ensures.rest_kept))
