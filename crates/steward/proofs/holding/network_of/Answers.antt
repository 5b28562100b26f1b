use Rattle.std.proofs.Common.{refl}
use Rattle.steward.specs.Clients.{is_inside_as}
use Rattle.steward.proofs.Counts.{count-position_none, searched}
use Rattle.steward.proofs.Held.{inside_at, nobody, not_let_in}
use Rattle.steward.proofs.holding.network_of.Goals as goal

pub returns-in_default-clause-none : goal.returns-in_default-clause-none
returns-in_default-clause-none c =
    count-position_none (is_inside_as c.args.number) _ (searched (is_inside_as c.args.number) c.place_inside.ensures refl c.in_default.is)

pub returns-in-Inside-clause-some : goal.returns-in-Inside-clause-some
returns-in-Inside-clause-some c =
    let l = inside_at c.args.number c.args.clients.now c.in-Some.place nobody (searched (is_inside_as c.args.number) c.place_inside.ensures refl c.in-Some.is) in
    (c.in-Some.place, _, l.below, l.at, (l.named, c.in-Inside.is))

pub returns-in_default-stage : goal.returns-in_default-stage
returns-in_default-stage c =
    let l = inside_at c.args.number c.args.clients.now c.in-Some.place nobody (searched (is_inside_as c.args.number) c.place_inside.ensures refl c.in-Some.is) in
    not_let_in _ c.in_default-stage.not-Inside l.let_in
