use Rattle.std.proofs.Common.{inr, refl}
use Rattle.steward.specs.Partings.{is_outdated_at}
use Rattle.steward.proofs.Fleets.{none_such}
use Rattle.steward.proofs.Parted.{outdated_numbered}
use Rattle.steward.proofs.steward.Steward.dismiss.Goals as goal

pub returns-in-None-clause-parted : goal.returns-in-None-clause-parted
returns-in-None-clause-parted c =
    (none_such (is_outdated_at c.args.network) c.args.network c.args.self.now.fleet.networks.items (outdated_numbered c.args.network) c.requires.gone, inr c.in-None.ensures.none)

pub returns-in-Some-clause-parted : goal.returns-in-Some-clause-parted
returns-in-Some-clause-parted c = (refl, inr c.requires.gone, c.in-Some.ensures.inside)
