-- Which nicks anything is said about. RFC 2812, section 2.3.1, is narrower than what networks
-- allow, so this test is our own choice.
use Rattle.std.specs.Prelude.{ℕ, Bool, false, ◌||◌, ◌&&◌, not, ◌==◌, nat_le, nat_lt, List, [], ◌∷◌}
use Rattle.std.specs.Prelude.{codes}
use Rattle.std.specs.List.{list_any}
use Rattle.std.specs.Char.{is_ascii_alphanumeric}

-- whether the byte is one of these
abbrev pub is_one_of : List ℕ → ℕ → Bool
is_one_of bytes b = list_any (λ c. b == c) bytes

-- how a nick may begin: a letter, a digit, a special character, a byte beyond ASCII
abbrev pub begins_nick : ℕ → Bool
begins_nick b = is_ascii_alphanumeric b || is_one_of (codes "[]\\`_^{|}") b || nat_le 128 b

-- what no nick holds: control bytes, and what parts a nick from its user and host
abbrev pub is_outside_nick : ℕ → Bool
is_outside_nick b = nat_lt b 32 || b == 127 || is_one_of (codes " !@") b

-- whether anything is said about this nick
abbrev pub is_nameable : List ℕ → Bool
is_nameable [] = false
is_nameable (b ∷ bs) = begins_nick b && not (list_any is_outside_nick (b ∷ bs))
