-- How many bytes a hub keeps: its texts, and a fixed number for each thing (our own choice).
use Rattle.std.specs.Prelude.{ℕ, ◌≡◌, ◌+◌, ◌%◌, ◌^◌, List, length, sum_by}
use Rattle.std.specs.List.{flat_map}
use Rattle.history.specs.Weights.{history_bytes, marks_bytes}
use Rattle.irc_line.specs.Writing.{written}
use Rattle.net_view.specs.View.{View}
use Rattle.network_tables.specs.Table.{map_bytes}
use Rattle.weights.specs.Costs.{name_cost, state_part_cost}
use Rattle.weights.specs.Sums.{maybe_bytes}
use Rattle.hub_core.specs.LostChannels.{Joining, lost_channels}
use Rattle.hub_core.specs.StateParts.{AreStateParts}
use Rattle.hub_core.specs.States.{HubState, heard, view_now}
use Rattle.hub_core.specs.declared.state_parts.StatePart.{StatePart}

-- a channel that is to be joined again: its name and its key
abbrev pub joining_bytes : Joining → ℕ
joining_bytes j = name_cost + length j.0 + maybe_bytes j.1

-- a state part that is kept for its capabilities: its lines
abbrev pub part_bytes : StatePart → ℕ
part_bytes part = state_part_cost + length (flat_map written part.packet)

-- This many bytes are kept: of messages, of the names of clients, of a view, which is that of what was
-- heard, of channels that are to be joined again, and of state parts of the view.
pub record Keeps {V : Type 0} (view : V → View) (weight : V → ℕ) (h : HubState) (bytes : ℕ) :
    Type 0 where
  pub seen : V
  pub parts : List StatePart
  pub is_seen : view seen ≡ view_now h
  pub are_parts : AreStateParts (view_now h) parts
  pub sum : bytes ≡ (history_bytes h.history + marks_bytes h.marks + weight seen
      + map_bytes joining_bytes (lost_channels (heard h)) + sum_by part_bytes parts) % 2 ^ 64
