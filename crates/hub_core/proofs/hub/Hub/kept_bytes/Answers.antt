use Rattle.hub_core.proofs.hub.Hub.kept_bytes.Goals as goal
use Rattle.hub_core.specs.{LostChannels.{joining}, Weights.{joining_bytes}}
use Rattle.network_tables.proofs.BytesLemmas.{shown_weighs}

pub returns : goal.returns
returns g c =
    let inside = c.self.inside in
    let running = c.self.invariant.0 in
    let lost = rw (shown_weighs joining_bytes joining inside.lost.all, running.lost_is)
    at c.bytes-3.ensures in
    rw (← c.self.view_is) (record {
      seen = inside.view;
      parts = inside.parts.items;
      is_seen = running.view_is;
      are_parts = rw running.view_is at c.self.invariant.1;
      sum = c.more-2.ensures _ _ (c.more.ensures _ _ (c.more-seen.ensures _ _
          (c.more-told.ensures _ _ c.bytes.ensures c.bytes-2.ensures) c.weight.ensures) lost)
          (rw c.deref.ensures.value at c.parts_weight.ensures);
    })
