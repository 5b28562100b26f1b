-- A nick made of the wanted one: cut, with two digits. All of it is our own choice.
use Rattle.std.specs.Prelude.{ℕ, zero, suc, ◌+◌, ◌-◌, ◌/◌, ◌%◌, ◌==◌, ◌&&◌, nat_le, Bool, false, not, List, [], ◌∷◌}
use Rattle.std.specs.Prelude.{◌++◌}
use Rattle.std.specs.Prelude.{Option, if◌then◌else◌, length, max, min, slice_get, take, unwrap_or}
use Rattle.std.specs.Option.{option_map_or}

-- a byte that goes on with a character (RFC 3629, section 3)
abbrev pub goes_on : ℕ → Bool
goes_on b = nat_le 128 b && nat_le b 191

-- a character begins at this place, or the nick ends there
abbrev pub begins_at : List ℕ → ℕ → Bool
begins_at nick place = not (option_map_or goes_on (slice_get nick place) false)

-- the last place up to this one at which a character begins; 0 if there is none before it
abbrev pub last_begin : List ℕ → ℕ → ℕ
last_begin nick zero = 0
last_begin nick (suc n) = if begins_at nick (suc n) then suc n else last_begin nick n

-- how many bytes have room beside two digits: the network's limit says so, or else the nick's length;
-- at least one
abbrev pub room_of : List ℕ → Option ℕ → ℕ
room_of nick limit = max (min (unwrap_or limit (length nick) - 2) (length nick)) 1

-- how many bytes are kept: the whole characters that have room; all, if the first has none
abbrev pub kept_of : List ℕ → ℕ → ℕ
kept_of nick room = if last_begin nick room == 0 then length nick else last_begin nick room

abbrev pub digits : ℕ → List ℕ
digits chance = (48 + chance / 10 % 10) ∷ (48 + chance % 10) ∷ []

abbrev pub cut_nick : List ℕ → Option ℕ → ℕ → List ℕ
cut_nick nick limit chance =
    take (kept_of nick (room_of nick limit)) nick ++ digits chance
