-- What lines cost of a network's pace, and how long their speaker waits. All of it is our own
-- choice; that a line costs at least something is so because servers count lines (RFC 2813, section
-- 5.8).
use Rattle.std.specs.Prelude.{ℕ, Bool, false, ◌||◌, ◌&&◌, ◌-◌, ◌*◌, List, codes, length, max, min}
use Rattle.std.specs.Prelude.{slice_get, if◌then◌else◌}
use Rattle.std.specs.List.{list_any}
use Rattle.std.specs.Option.{option_map_or}
use Rattle.std.specs.Str.{str_eq_ignore_ascii_case}
use Rattle.irc_line.specs.Line.{Parts, has_command}
use Rattle.irc_line.specs.Lines.{lines_of}

-- the commands that nobody but us hears
abbrev pub is_unheard : Parts → Bool
is_unheard line =
    has_command line (codes "PING") || has_command line (codes "PONG")
    || has_command line (codes "CAP") || has_command line (codes "QUIT")

-- a request for other capabilities (IRCv3 capability negotiation, CAP REQ)
abbrev pub is_request : Parts → Bool
is_request line =
    has_command line (codes "CAP")
    && option_map_or (λ word. str_eq_ignore_ascii_case word (codes "REQ"))
    (slice_get line.params 0) false

-- what a line of this many bytes costs if the network hears it
abbrev pub full_cost : ℕ → ℕ
full_cost bytes = max bytes 30

-- what the bytes of a line cost
abbrev pub cost_of : List ℕ → ℕ
cost_of bytes = if list_any is_unheard (lines_of bytes) then 0 else full_cost (length bytes)

-- How many parts may be owed at most by somebody who now says this much, with this much at once.
-- A byte has 1,000,000 parts, so that a pace in bytes a second frees that many parts a microsecond.
abbrev pub room_for : ℕ → ℕ → ℕ
room_for burst bytes = (burst - min bytes burst) * 1000000
