-- Whether a network offers a login by a mechanism, in the list of a CAP LS (IRCv3 sasl 3.1 and 3.2).
use Rattle.std.specs.Prelude.{ℕ, ◌+◌, Bool, true, ◌&&◌, ◌==◌, List, Option, codes, drop, length, position}
use Rattle.std.specs.Prelude.{take, unwrap_or}
use Rattle.std.specs.List.{list_any, slice_split}
use Rattle.std.specs.Option.{option_map_or}
use Rattle.std.specs.Str.{bytes_eq}
use Rattle.sasl.specs.Said.{has_item}

-- the value of a word begins at its first `=`
abbrev pub value_mark : List ℕ → Option ℕ
value_mark word = position (λ b. b == 61) word

-- a word offers the mechanism: `sasl`, which does not say which ones there are (3.1), or `sasl=..`
-- with the mechanism in its list, which commas part (3.2)
abbrev pub is_offer : List ℕ → List ℕ → Bool
is_offer mechanism word =
    bytes_eq (take (unwrap_or (value_mark word) (length word)) word) (codes "sasl")
    && option_map_or (λ mark. has_item 44 mechanism (drop (mark + 1) word)) (value_mark word) true

-- one of the words of a list offers the mechanism
abbrev pub offers : List ℕ → List ℕ → Bool
offers mechanism list = list_any (is_offer mechanism) (slice_split (λ b. b == 32) list)
