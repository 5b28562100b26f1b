-- A port in a PROXY line (The PROXY protocol, section 2.1).
use Rattle.std.specs.Prelude.{ℕ, Bool, true, false, ◌&&◌, ◌==◌, not, nat_le, List, [], ◌∷◌}
use Rattle.std.specs.Char.{is_ascii_digit}
use Rattle.std.specs.List.{list_all}
use Rattle.std.specs.Str.Parse.{digits_value}

-- there is something, and no zero in front of other bytes
abbrev pub begins_well : List ℕ → Bool
begins_well [] = false
begins_well (b ∷ []) = true
begins_well (b ∷ c ∷ bs) = not (b == 48)

-- a number from 0 to 65535 in decimal digits, without zeros in front
abbrev pub is_port : List ℕ → Bool
is_port text =
    begins_well text && (list_all is_ascii_digit text && nat_le (digits_value 10 text) 65535)
