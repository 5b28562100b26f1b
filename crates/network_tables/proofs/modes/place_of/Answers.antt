use Rattle.network_tables.proofs.modes.place_of.Goals as goal
use Rattle.std.{proofs.lemmas.Fn.always_returns_same, specs.Ordering.nat_cmp}

pub returns-clause-place : goal.returns-clause-place
returns-clause-place g c =
    c.binary_search_by.ensures.position (λ mode. nat_cmp mode.letter c.args.letter)
    (always_returns_same _ _ _ (λ a r f' k. (k.met.1, λ j. record { 0 = k.met.0 j })))
