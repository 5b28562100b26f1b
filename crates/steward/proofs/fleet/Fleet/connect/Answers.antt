use Rattle.std.proofs.Common.{◌∙◌, refl, sym, arith}
use Rattle.steward.specs.declared.network.Phase.TheVariants.{Registering}
use Rattle.steward.specs.Networks.{has_number, is_awaited_at}
use Rattle.steward.proofs.Counts.{count-position_none, searched}
use Rattle.steward.proofs.Fleets.{fleet-set, awaited_numbered, dialling_bit, dialling_is, is_awaited, none_such, not_dialled, not_wanted, only, onlines-set, others-set, stands}
use Rattle.steward.proofs.fleet.Fleet.connect.Goals as goal

pub invariant_of-self : goal.invariant_of-self
invariant_of-self c =
    let s = stands c.args.number c.args.self.now.networks.items c.in-Some.place c.index.result.now (searched (has_number c.args.number) c.place_of_network.ensures c.deref.ensures.value c.in-Some.is) c.index.ensures in
    record { within = fleet-set _ _ _ _ _ s.below s.at refl refl refl c.args.self.now.within }

pub returns-then-not-is_wanted-clause-others : goal.returns-then-not-is_wanted-clause-others
returns-then-not-is_wanted-clause-others c =
    let s = stands c.args.number c.args.self.now.networks.items c.in-Some.place c.index.result.now (searched (has_number c.args.number) c.place_of_network.ensures c.deref.ensures.value c.in-Some.is) c.index.ensures in
    others-set c.args.number _ _ _ _ s.at s.named s.named

pub invariant_of-self-2 : goal.invariant_of-self-2
invariant_of-self-2 c =
    let s = stands c.args.number c.args.self.now.networks.items c.in-Some.place c.index.result.now (searched (has_number c.args.number) c.place_of_network.ensures c.deref.ensures.value c.in-Some.is) c.index.ensures in
    record { within = fleet-set _ _ _ _ _ s.below s.at refl refl refl c.args.self.now.within }

pub returns-in_default-clause-connected : goal.returns-in_default-clause-connected
returns-in_default-clause-connected c =
    none_such (is_awaited_at c.args.number) c.args.number c.args.self.now.networks.items (awaited_numbered c.args.number) (count-position_none (has_number c.args.number) c.args.self.now.networks.items (searched (has_number c.args.number) c.place_of_network.ensures c.deref.ensures.value c.in_default.is))

pub returns-then-not-is_dialled-clause-connected : goal.returns-then-not-is_dialled-clause-connected
returns-then-not-is_dialled-clause-connected c =
    let s = stands c.args.number c.args.self.now.networks.items c.in-Some.place c.index.result.now (searched (has_number c.args.number) c.place_of_network.ensures c.deref.ensures.value c.in-Some.is) c.index.ensures in
    only (is_awaited_at c.args.number) c.args.number _ _ _ _ (awaited_numbered c.args.number) s c.args.self.now.within ∙ not_dialled c.index.result.now c.args.number (sym c.if-not-is_dialled.ensures)

pub returns-then-not-is_wanted-clause-connected : goal.returns-then-not-is_wanted-clause-connected
returns-then-not-is_wanted-clause-connected c =
    let s = stands c.args.number c.args.self.now.networks.items c.in-Some.place c.index.result.now (searched (has_number c.args.number) c.place_of_network.ensures c.deref.ensures.value c.in-Some.is) c.index.ensures in
    only (is_awaited_at c.args.number) c.args.number _ _ _ _ (awaited_numbered c.args.number) s c.args.self.now.within ∙ not_wanted c.index.result.now c.args.number (sym c.if-not-is_dialled.ensures) (sym c.if-not-is_wanted.ensures)

pub returns-clause-connected : goal.returns-clause-connected
returns-clause-connected c =
    let s = stands c.args.number c.args.self.now.networks.items c.in-Some.place c.index.result.now (searched (has_number c.args.number) c.place_of_network.ensures c.deref.ensures.value c.in-Some.is) c.index.ensures in
    only (is_awaited_at c.args.number) c.args.number _ _ _ _ (awaited_numbered c.args.number) s c.args.self.now.within ∙ is_awaited c.index.result.now c.args.number (sym c.if-not-is_dialled.ensures) (sym c.if-not-is_wanted.ensures) s.named

pub returns-clause-online : goal.returns-clause-online
returns-clause-online c = λ n.
    let s = stands c.args.number c.args.self.now.networks.items c.in-Some.place c.index.result.now (searched (has_number c.args.number) c.place_of_network.ensures c.deref.ensures.value c.in-Some.is) c.index.ensures in
    let m = onlines-set n _ _ _ (record c.index.result.now { phase = Registering }) s.below s.at in
    let b = dialling_bit c.index.result.now n (dialling_is _ (sym c.if-not-is_dialled.ensures)) in
    rw (← s.named) (omega (arith, m, b))

pub returns-clause-others : goal.returns-clause-others
returns-clause-others c =
    let s = stands c.args.number c.args.self.now.networks.items c.in-Some.place c.index.result.now (searched (has_number c.args.number) c.place_of_network.ensures c.deref.ensures.value c.in-Some.is) c.index.ensures in
    others-set c.args.number _ _ _ _ s.at s.named s.named
