use Rattle.hub_runs.proofs.runs.go_on.Given as goal
use Rattle.hub_runs.specs.Worlds.{AllHappen, outlets_of, world_of}
use Rattle.std.proofs.Common.{◌+◌, ◌≡◌, ◌≤◌, length, take, vec_capacity, vec_len}

abbrev pub invariant-loop-event : goal.invariant-loop-event
invariant-loop-event g l = record {
  count : l.done ≡ l.event-index;
  room : vec_len l.world.replies + length l.events ≤ vec_capacity l.world.replies + l.event-index;
  so_far : AllHappen (take l.done l.events) l.world.replies.items
      (world_of l.fn.world.hub l.fn.world.splitter.rest (outlets_of l.fn.world.gone.items))
      (world_of l.world.hub l.world.splitter.rest (outlets_of l.world.gone.items));
}
