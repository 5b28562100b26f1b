use Rattle.hub_threads.proofs.inlet_ring.waiting.Goals as goal
use Rattle.{hub_ends.specs.Came.came, rtrb.specs.Ring.{known_items, received}}
use Rattle.std.proofs.{Common.{◌∙◌, ap, map, sym}, lemmas.List.{length-map, map-append}}

pub returns-clause-waiting : goal.returns-clause-waiting
returns-clause-waiting c =
    let end = c.slots_beside.new.self in
    let long = length-map (known_items end) came ∙ sym c.slots_beside.ensures.value in
    let fifo = sym (map-append came (received end) (known_items end)) in
    (map came (known_items end), long, fifo ∙ ap (map came) c.slots_beside.ensures.fifo)
