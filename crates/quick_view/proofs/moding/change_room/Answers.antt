use Rattle.quick_view.proofs.moding.change_room.Goals as goal
use Rattle.std.proofs.Common.{refl}

pub returns-clause-changed : goal.returns-clause-changed
returns-clause-changed g c = λ sets. record {
  name = refl;
  topic = refl;
  modes = λ letter. rw c.in_ok-modes.ensures at (c.in_ok-change_modes.ensures letter);
  members = c.change_ranks.ensures sets;
}
