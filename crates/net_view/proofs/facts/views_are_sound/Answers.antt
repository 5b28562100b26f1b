use Rattle.net_view.proofs.facts.views_are_sound.Goals as goal
use Rattle.net_view.proofs.{Channels.channels_get, FormSound.{letters_unsigned, tokens_formed}}
use Rattle.net_view.proofs.{FormSound.view_ranked, LastWord.last_found, SoundStep.view_sound}
use Rattle.net_view.proofs.{Words.{arith, view_of}, WrittenViews.views_are_clean}

pub returns : goal.returns
unfolding view_of
returns c = record {
  sound = view_sound;
  formed = λ items. grind (arith, tokens_formed, letters_unsigned, view_ranked);
  clean = views_are_clean;
  joined = λ items c ch h. grind (arith, channels_get, last_found);
}
