use Rattle.welcome.proofs.groups.place_of.Goals as goal
use Rattle.welcome.proofs.PlaybackWhole.{found_nowhere, found_there, lies}
use Rattle.welcome.proofs.Words.{always_returns_same, rules}

pub returns-in-Ok-clause-place : goal.returns-in-Ok-clause-place
returns-in-Ok-clause-place c =
    found_there c.args.mapping c.args.target.now _ _ _ c.requires c.in-Ok.ensures.bound
    (c.in-Ok.ensures.position (lies c.args.mapping c.args.target.now)
    (always_returns_same _ _ _ (λ a r f' k. search rules)) c.args.target)

pub returns-in-Err-clause-place : goal.returns-in-Err-clause-place
returns-in-Err-clause-place c =
    found_nowhere c.args.mapping
    c.args.target.now _ _ c.args.target c.requires c.in-Err.ensures.bound (c.in-Err.ensures.position
    (lies c.args.mapping c.args.target.now) (always_returns_same _ _ _ (λ a r f' k. search rules)))
