use Rattle.std.proofs.Common.{◌∙◌, refl, sym}
use Rattle.steward.specs.Holding.{are_settled}
use Rattle.steward.specs.Networks.{lets_enter}
use Rattle.steward.proofs.Begun.{is_none}
use Rattle.steward.proofs.Counts.{count-position_none, searched}
use Rattle.steward.proofs.Held.{found}
use Rattle.steward.proofs.steward.Steward.enters.Goals as goal

pub returns-in-Some-place_of_entrance-clause-entering :
    goal.returns-in-Some-place_of_entrance-clause-entering
returns-in-Some-place_of_entrance-clause-entering c =
    let p = lets_enter c.in-Some.network (are_settled c.args.self.now.terms.wait c.args.now c.args.channels) in (
      refl,
      is_none c.args.self.now.stop (sym c.if-is_ending.false ∙ c.is_some-is_ending.ensures),
      c.in-Some.network,
      rw c.deref.ensures.value at c.in-Some.ensures.some,
      found p _ c.in-Some-place_of_entrance.field-0 (searched p (rw c.are_settled-are_settled.ensures at c.place_of_entrance.ensures) c.deref-2.ensures.value c.in-Some-place_of_entrance.is),
    )

pub returns-in-None-clause-entering : goal.returns-in-None-clause-entering
returns-in-None-clause-entering c =
    let p = lets_enter c.in-Some.network (are_settled c.args.self.now.terms.wait c.args.now c.args.channels) in (
      refl,
      is_none c.args.self.now.stop (sym c.if-is_ending.false ∙ c.is_some-is_ending.ensures),
      c.in-Some.network,
      rw c.deref.ensures.value at c.in-Some.ensures.some,
      count-position_none p _ (searched p (rw c.are_settled-are_settled.ensures at c.place_of_entrance.ensures) c.deref-2.ensures.value c.in-None.is),
    )
