-- The response to `AUTHENTICATE +` (PLAIN: RFC 4616, section 2; EXTERNAL: RFC 4422, appendix A), in
-- the pieces of IRCv3 sasl 3.1.
use Rattle.std.specs.Prelude.{ℕ, zero, suc, ◌+◌, ◌*◌, ◌/◌, List, [], ◌∷◌, ◌++◌, Option, Some, None}
use Rattle.std.specs.Prelude.{codes, drop, length, take}
use Rattle.base64.specs.Engines.{standard}
use Rattle.base64.specs.GeneralPurpose.{encode_of}
use Rattle.irc_line.specs.Line.{Parts}
use Rattle.irc_line.specs.Writing.{untagged_line}

-- an account and its password, for PLAIN; or none, for EXTERNAL
abbrev pub Account : Type 0
Account = Option (List ℕ × List ℕ)

abbrev pub mechanism_of : Account → List ℕ
mechanism_of None = codes "EXTERNAL"
mechanism_of (Some login) = codes "PLAIN"

-- PLAIN's message: NUL, the account, NUL, its password. Nothing comes before the first NUL, so we
-- act as that account and as no other.
abbrev pub message_of : List ℕ → List ℕ → List ℕ
message_of user password = 0 ∷ (user ++ 0 ∷ password)

-- the response in base64; EXTERNAL's is empty
abbrev pub response_of : Account → List ℕ
response_of None = []
response_of (Some login) = encode_of standard (message_of login.0 login.1)

abbrev pub authenticate : List ℕ → Parts
authenticate param = untagged_line None (codes "AUTHENTICATE") (param ∷ [])

abbrev pub cap_end : Parts
cap_end = untagged_line None (codes "CAP") (codes "END" ∷ [])

-- an empty piece is written `+`
abbrev pub piece_line : List ℕ → Parts
piece_line [] = authenticate (codes "+")
piece_line (b ∷ bs) = authenticate (b ∷ bs)

-- the piece at a place, counted from 0: at most 400 bytes
abbrev pub piece_at : List ℕ → ℕ → List ℕ
piece_at text place = take 400 (drop (400 * place) text)

abbrev pub pieces_to : List ℕ → ℕ → List Parts
pieces_to text zero = []
pieces_to text (suc n) = pieces_to text n ++ piece_line (piece_at text n) ∷ []

-- a text in pieces; the last is shorter than 400 bytes, and so may be empty
abbrev pub response_lines : List ℕ → List Parts
response_lines text = pieces_to text (length text / 400 + 1)
