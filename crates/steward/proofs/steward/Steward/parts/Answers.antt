use Rattle.std.specs.List.{count_by}
use Rattle.std.proofs.Common.{◌∙◌, ap, arith, inl, inr, refl}
use Rattle.steward.specs.declared.fleet.Fleet.{Fleet}
use Rattle.steward.specs.Networks.{has_number, onlines}
use Rattle.steward.specs.Partings.{is_changed_at, is_left_at, is_outdated_at, lefts}
use Rattle.steward.proofs.Counts.{count-position_none, searched}
use Rattle.steward.proofs.Fleets.{only, stands, there}
use Rattle.steward.proofs.Parted.{changed_numbered, is_changed_one, is_left_one, left_numbered, not_left, not_outdated, outdated-le, outdated_numbered, unchanged_mark}
use Rattle.steward.proofs.steward.Steward.parts.Goals as goal

pub dismiss-requires : goal.dismiss-requires
dismiss-requires c =
    record { gone = count-position_none (has_number c.args.network) c.args.self.now.fleet.networks.items (searched (has_number c.args.network) c.place_of_network.ensures c.deref.ensures.value c.in_default.is) }

pub returns-then-not-one-clause-parted : goal.returns-then-not-one-clause-parted
returns-then-not-one-clause-parted c =
    let s = stands c.args.network c.args.self.now.fleet.networks.items c.in-Some.place c.index-one.result.now (searched (has_number c.args.network) c.place_of_network.ensures c.deref.ensures.value c.in-Some.is) c.index-one.ensures in
    let o = only (is_outdated_at c.args.network) c.args.network _ _ _ _ (outdated_numbered c.args.network) s c.args.self.now.fleet.within in
    let l = only (is_left_at c.args.network) c.args.network _ _ _ _ (left_numbered c.args.network) s c.args.self.now.fleet.within in
    (o ∙ not_outdated c.args.network c.index-one.result.now c.if-one.false (unchanged_mark c.index-one.result.now.is_changed c.if-not-one.true), inl (l ∙ not_left c.args.network c.index-one.result.now c.if-one.false, there c.args.network _ _ _ _ s c.args.self.now.fleet.within))

pub returns-else-part-clause-parted : goal.returns-else-part-clause-parted
returns-else-part-clause-parted c =
    let s = stands c.args.network c.args.self.now.fleet.networks.items c.in-Some.place c.index-one.result.now (searched (has_number c.args.network) c.place_of_network.ensures c.deref.ensures.value c.in-Some.is) c.index-one.ensures in
    let u = c.part.ensures.unchanged c.if-part.false in
    let o = ap (λ (fleet : Fleet). onlines c.args.network fleet.networks.items) u in
    let l = ap (λ (fleet : Fleet). lefts c.args.network fleet.networks.items) u in
    let h = ap (λ (fleet : Fleet). count_by (has_number c.args.network) fleet.networks.items) u in
    let p = rw c.if-part.false at c.part.ensures.parted in
    let e = outdated-le c.args.network c.part.new.self.networks.items in
    let n = only (is_left_at c.args.network) c.args.network _ _ _ _ (left_numbered c.args.network) s c.args.self.now.fleet.within in
    (omega (arith, o, p, e), inl (l ∙ (n ∙ not_left c.args.network c.index-one.result.now c.if-one.false), h ∙ there c.args.network _ _ _ _ s c.args.self.now.fleet.within))

pub remove-requires : goal.remove-requires
remove-requires c =
    let s = stands c.args.network c.args.self.now.fleet.networks.items c.in-Some.place c.index-one.result.now (searched (has_number c.args.network) c.place_of_network.ensures c.deref.ensures.value c.in-Some.is) c.index-one.ensures in
    record { left = only (is_left_at c.args.network) c.args.network _ _ _ _ (left_numbered c.args.network) s c.args.self.now.fleet.within ∙ is_left_one c.args.network c.index-one.result.now c.if-one.true s.named }

pub returns-then-part-clause-parted : goal.returns-then-part-clause-parted
returns-then-part-clause-parted c =
    let s = stands c.args.network c.args.self.now.fleet.networks.items c.in-Some.place c.index-one.result.now (searched (has_number c.args.network) c.place_of_network.ensures c.deref.ensures.value c.in-Some.is) c.index-one.ensures in
    (refl, inr (only (is_changed_at c.args.network) c.args.network _ _ _ _ (changed_numbered c.args.network) s c.args.self.now.fleet.within ∙ is_changed_one c.args.network c.index-one.result.now c.if-not-one.false s.named))
