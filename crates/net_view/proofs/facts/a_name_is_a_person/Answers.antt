use Rattle.net_view.proofs.Words.{arith, Quits, is_us, standing_of, view_of, after}
use Rattle.net_view.proofs.facts.a_name_is_a_person.Goals as goal
use Rattle.net_view.proofs.{Keys.is_same, Keys.same_refl, AfterMaps.get-channels_after}
use Rattle.net_view.proofs.{AfterMaps.seen_somewhere, SoundStep.in_channel_after}
use Rattle.net_view.proofs.{StepLaw.view_step, Emptied.emptied, SoundStep.view_sound}

pub returns : goal.returns
unfolding after
returns c = record {
  known = λ items nick account e. grind (arith, view_sound);
  there_and_back = λ s a b c n keyed home cs other. grind (arith, same_refl, is_same, is_same n);
  quit = λ items x n e.
      let us = is_us (standing_of (view_of items)) in
      let left = in_channel_after us (Quits n) in
      grind (arith, view_step, seen_somewhere, get-channels_after us (Quits n), left, same_refl n);
  welcome = λ items x nick e. grind (arith, view_step, emptied);
}
