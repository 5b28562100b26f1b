-- The bytes that each thing takes beside its texts (our own choice).
use Rattle.std.specs.Prelude.{ℕ}

-- a message that is kept, and the name of a client, or of a channel that is to be joined again
abbrev pub entry_cost : ℕ
entry_cost = 192

abbrev pub name_cost : ℕ
name_cost = 128

-- a channel, a person in sight, a member of a channel, and a mode that is on
abbrev pub channel_cost : ℕ
channel_cost = 512

abbrev pub person_cost : ℕ
person_cost = 320

abbrev pub member_cost : ℕ
member_cost = 128

abbrev pub mode_cost : ℕ
mode_cost = 64

-- a setting of the network, and the lines that tell a client where it stands
abbrev pub setting_cost : ℕ
setting_cost = 128

abbrev pub state_part_cost : ℕ
state_part_cost = 128
