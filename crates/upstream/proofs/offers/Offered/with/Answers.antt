use Rattle.upstream.specs.declared.said.Said.TheVariants as says
use Rattle.upstream.proofs.offers.Offered.with.Goals as goal
use Rattle.std.proofs.Common.{arith, false, true, ◌≡◌, ◌⊎◌}
use Rattle.upstream.{proofs.OfferLemmas.{offers_listed, offers_nothing}, specs.Registration.is_list}
use Rattle.upstream.specs.declared.said.Said.{Said}

no_list : (s : Said) → (s ≡ says.List → ⊥) → (s ≡ says.LastList → ⊥) → is_list s ≡ false
no_list s a b = grind arith

listed : (s : Said) → (s ≡ says.List) ⊎ (s ≡ says.LastList) → is_list s ≡ true
listed s is = grind arith

pub returns-in-List : goal.returns-in-List
returns-in-List c = λ before at.
    offers_listed before c.args.line.now c.args.self c.last_param-list.result.now _ _ _ _ _
    (rw (← c.requires) (listed c.args.says c.in-List.is)) at c.last_param-list.ensures
    c.has_word_for.ensures c.has_word_for-in-List.ensures c.has_word_for-in-List-2.ensures
    c.has_word_for-in-List-3.ensures c.has_word_for-in-List-4.ensures

pub returns-in_default : goal.returns-in_default
returns-in_default c = λ before at.
    offers_nothing before c.args.line.now c.args.self
    (rw (← c.requires) (no_list c.args.says c.in_default.not-List c.in_default.not-LastList)) at
