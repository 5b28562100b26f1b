use Rattle.net_view.proofs.facts.settings_stay.Goals as goal
use Rattle.net_view.proofs.{SoundStep.view_sound, StepLaw.view_step, Words.{after, arith}}

pub returns : goal.returns
unfolding after
returns c = record {
  ready = λ items x ready none. grind (arith, view_step, view_sound);
  same = λ items x ready none. grind (arith, view_step);
}
