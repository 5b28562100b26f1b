use Rattle.std.proofs.Common.{◌∙◌, sym}
use Rattle.steward.specs.Networks.{has_number, is_awaited_at}
use Rattle.steward.proofs.Counts.{count-position_none, searched}
use Rattle.steward.proofs.Fleets.{awaited_numbered, is_awaited, none_such, not_dialled, not_wanted, only, stands}
use Rattle.steward.proofs.fleet.Fleet.is_awaited.Goals as goal

pub returns-in_default : goal.returns-in_default
returns-in_default c =
    none_such (is_awaited_at c.args.number) c.args.number c.args.self.now.networks.items (awaited_numbered c.args.number) (count-position_none (has_number c.args.number) c.args.self.now.networks.items (searched (has_number c.args.number) c.place_of_network.ensures c.deref.ensures.value c.in_default.is))

pub returns-then-not-is_dialled : goal.returns-then-not-is_dialled
returns-then-not-is_dialled c =
    let s = stands c.args.number c.args.self.now.networks.items c.in-Some.place c.index.result.now (searched (has_number c.args.number) c.place_of_network.ensures c.deref.ensures.value c.in-Some.is) c.index.ensures in
    only (is_awaited_at c.args.number) c.args.number _ _ _ _ (awaited_numbered c.args.number) s c.args.self.now.within ∙ not_dialled c.index.result.now c.args.number (sym c.if-not-is_dialled.ensures)

pub returns-then-not-is_wanted : goal.returns-then-not-is_wanted
returns-then-not-is_wanted c =
    let s = stands c.args.number c.args.self.now.networks.items c.in-Some.place c.index.result.now (searched (has_number c.args.number) c.place_of_network.ensures c.deref.ensures.value c.in-Some.is) c.index.ensures in
    only (is_awaited_at c.args.number) c.args.number _ _ _ _ (awaited_numbered c.args.number) s c.args.self.now.within ∙ not_wanted c.index.result.now c.args.number (sym c.if-not-is_dialled.ensures) (sym c.if-not-is_wanted.ensures)

pub returns : goal.returns
returns c =
    let s = stands c.args.number c.args.self.now.networks.items c.in-Some.place c.index.result.now (searched (has_number c.args.number) c.place_of_network.ensures c.deref.ensures.value c.in-Some.is) c.index.ensures in
    only (is_awaited_at c.args.number) c.args.number _ _ _ _ (awaited_numbered c.args.number) s c.args.self.now.within ∙ is_awaited c.index.result.now c.args.number (sym c.if-not-is_dialled.ensures) (sym c.if-not-is_wanted.ensures) s.named
