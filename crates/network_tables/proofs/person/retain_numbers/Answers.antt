use Rattle.network_tables.proofs.person.retain_numbers.Goals as goal
use Rattle.network_tables.proofs.BytesLemmas.{map_weighs}
use Rattle.network_tables.proofs.{MarkLemmas.marked_retained, TableLemmas.{retained, tabled_by}}
use Rattle.network_tables.specs.{Rooms.{rooms_of}, Table.{entry_of}, Weights.{no_bytes}}
use Rattle.net_view.specs.Step.{is_seen}

pub invariant_of-index : goal.invariant_of-index
invariant_of-index g c =
    let seen = is_seen (rooms_of c.args.rooms.now.all) in
    let kept = retained entry_of seen _ c.index.invariant.0 in
    rw c.retain_in.ensures (tabled_by _ _ kept (marked_retained _ _ c.index.invariant.1.0 _)
    (rw (← kept.is, map_weighs no_bytes _ kept.sorted)
    (rw c.retain_in.ensures at c.slots_weight-index-inside.ensures)))

pub returns : goal.returns
returns g c =
    rw (← c.index.view_is, c.retain_in.ensures) (retained entry_of _ _ c.index.invariant.0).is
