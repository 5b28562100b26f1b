use Rattle.std.proofs.Common.{◌∙◌, refl, sym}
use Rattle.steward.proofs.Numbered.{inserted}
use Rattle.steward.proofs.names.Names.number_of.Goals as goal

pub returns-clause-numbered : goal.returns-clause-numbered
returns-clause-numbered c =
    inserted _ (λ _ _. refl) c.args.self.now.texts.keys c.insert_full.new.self.keys c.args.text.now c.in_ok-text.text _ c.in_ok-text.ensures.items (sym c.get_index_of.ensures.index ∙ c.in_default.is) c.in-Ok.ensures.keys c.in-Ok.ensures.index
