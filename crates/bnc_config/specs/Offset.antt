-- Offsets from UTC, as texts write them.
use Rattle.std.specs.Prelude.{ℕ, ◌+◌, ◌*◌, ◌-◌, Bool, false, ◌&&◌, ◌||◌, ◌==◌, nat_le, nat_lt}
use Rattle.std.specs.Prelude.{List, [], ◌∷◌, Option, Some, None, if◌then◌else◌, is_some, codes}
use Rattle.std.specs.List.{list_all}
use Rattle.std.specs.Char.{is_ascii_digit}
use Rattle.std.specs.Str.{bytes_eq}
use Rattle.bnc_config.specs.declared.utc_offset.UtcOffset.{UtcOffset}

-- the number that two decimal digits write
abbrev pub pair_value : ℕ → ℕ → ℕ
pair_value tens ones = (tens - 48) * 10 + (ones - 48)

-- the minutes of two digits of hours and two of minutes below 60, if they are at most 14 hours, the
-- largest offset that there is
abbrev pub minutes_of : ℕ → ℕ → ℕ → ℕ → Option ℕ
minutes_of h i m n =
    if list_all is_ascii_digit (h ∷ i ∷ m ∷ n ∷ [])
    && (nat_lt (pair_value m n) 60 && nat_le (pair_value h i * 60 + pair_value m n) 840)
    then Some (pair_value h i * 60 + pair_value m n)
    else None

-- a sign, and a minus if local times are behind UTC
abbrev pub side_of : ℕ → Option Bool
side_of sign = if sign == 43 || sign == 45 then Some (sign == 45) else None

abbrev pub offset_by : Option Bool → Option ℕ → Option UtcOffset
offset_by (Some is_behind) (Some minutes) =
    Some (record { is_behind = is_behind; minutes = minutes })
offset_by _ _ = None

-- a sign, hours, a colon and minutes (RFC 3339, section 5.6, `time-numoffset`)
abbrev pub numeric_offset_of : List ℕ → Option UtcOffset
numeric_offset_of (sign ∷ h ∷ i ∷ colon ∷ m ∷ n ∷ []) =
    if colon == 58 then offset_by (side_of sign) (minutes_of h i m n) else None
numeric_offset_of _ = None

-- such an offset, or `UTC`
abbrev pub offset_of : List ℕ → Option UtcOffset
offset_of text =
    if bytes_eq text (codes "UTC")
    then Some (record { is_behind = false; minutes = 0 })
    else numeric_offset_of text

abbrev pub is_offset : List ℕ → Bool
is_offset text = is_some (offset_of text)
