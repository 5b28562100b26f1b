-- How far a zone's time is from UTC.
use Rattle.std.specs.Prelude.{ℕ, Bool, false, nat_le, if◌then◌else◌, Option, Some, None}
use Rattle.welcome.specs.declared.playing.Offset.{Offset}

-- that of UTC
abbrev pub utc : Offset
utc = record { is_before = false; minutes = 0 }

-- this many minutes, before UTC or after it: at most 14 hours
abbrev pub offset_apart : Bool → ℕ → Option Offset
offset_apart is_before minutes =
    if nat_le minutes 840 then Some (record { is_before = is_before; minutes = minutes }) else None
