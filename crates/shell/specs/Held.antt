-- Lines as they come and go in pieces.
use Rattle.std.specs.Prelude.{◌+◌, ◌-◌, ◌==◌, ℕ, Bool, not, List, length, min, option_map, slice_index, Option, if◌then◌else◌}
use Rattle.std.specs.List.{position, position_or_len}

-- how many bytes the first line has with its LF, if there is an LF
abbrev pub first_length : List ℕ → Option ℕ
first_length held = option_map (λ place. place + 1) (position (λ b. b == 10) held)

-- how many bytes the first line has: with its LF, or all there are if there is none
abbrev pub line_length : List ℕ → ℕ
line_length held = min (position_or_len (λ b. b == 10) held + 1) (length held)

-- whether a stream is within a line after these bytes; `before` says whether it was before them
abbrev pub ends_within : Bool → List ℕ → Bool
ends_within before bytes =
    if length bytes == 0 then before else not (slice_index bytes (length bytes - 1) == 10)
