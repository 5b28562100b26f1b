-- How many bytes tables keep: their texts, and a fixed number for each thing (our own choice).
use Rattle.std.specs.Prelude.{ℕ, ◌+◌, List, length, sum_by}
use Rattle.std.specs.Ordering.{nat_cmp}
use Rattle.std.specs.FinMap as fin
use Rattle.std.proofs.Common.{Option}
use Rattle.irc_support.specs.Text.{Text}
use Rattle.net_view.specs.View as view
use Rattle.weights.specs.Costs.{channel_cost, member_cost, mode_cost, person_cost}
use Rattle.weights.specs.Sums.{maybe_bytes}
use Rattle.network_tables.specs.Table.{map_bytes}

-- the number of a cell is counted with what is in the cell
abbrev pub no_bytes : ℕ → ℕ
no_bytes number = 0

-- a member of a channel, whatever the ranks
abbrev pub ranks_bytes : List ℕ → ℕ
ranks_bytes ranks = member_cost

-- a mode that is on: its parameter
abbrev pub mode_bytes : ℕ × Option Text → ℕ
mode_bytes mode = mode_cost + maybe_bytes mode.1

abbrev pub modes_bytes : fin.FinMap nat_cmp (Option Text) → ℕ
modes_bytes modes = sum_by mode_bytes (fin.entries modes)

-- a channel: its name, topic, modes and members
abbrev pub channel_bytes : view.Channel → ℕ
channel_bytes ch =
    channel_cost + length ch.name + maybe_bytes ch.topic + modes_bytes ch.modes
    + map_bytes ranks_bytes ch.members

-- a person in sight: nick, account and away text
abbrev pub person_bytes : view.Person → ℕ
person_bytes p =
    person_cost + maybe_bytes p.spelled + maybe_bytes p.account + maybe_bytes p.away
