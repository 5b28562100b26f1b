use Rattle.irc_support.proofs.support.Support.kind.Goals as goal
use Rattle.irc_support.specs.{ChanModes.{kind_in, kind_of, mode_lists}, Ranking.rank_of_letter}
use Rattle.std.proofs.Common.{ap, false, is_some, refl, true, ◌<◌, ◌∙◌, ◌≡◌}

pub returns-then-is_some : goal.returns-then-is_some
unfolding kind_of
returns-then-is_some g c =
    let yes : is_some (rank_of_letter c.args.self.now c.args.letter) ≡ true = cc in
    rw yes refl

pub returns : goal.returns
unfolding kind_of
returns g c =
    let fits : c.args.letter < 256 = c.ranges.letter.fits in
    let none : is_some (rank_of_letter c.args.self.now c.args.letter) ≡ false = cc in
    rw none (c.self.invariant.4 c.args.letter fits
    ∙ ap (λ settings. kind_in (mode_lists settings) c.args.letter) c.self.view_is)
