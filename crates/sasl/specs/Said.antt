-- What a line of a network says to one who logs in (IRCv3 sasl 3.1 and 3.2, capability
-- negotiation). Commands and subcommands are compared without regard to the case of ASCII letters.
use Rattle.std.specs.Prelude.{ℕ, Bool, false, ◌&&◌, ◌||◌, ◌==◌, ◌-◌, List, [], length, codes}
use Rattle.std.specs.Prelude.{slice_get, unwrap_or, if◌then◌else◌}
use Rattle.std.specs.List.{list_any, slice_split}
use Rattle.std.specs.Option.{option_map_or}
use Rattle.std.specs.Str.{bytes_eq, str_eq_ignore_ascii_case}
use Rattle.irc_line.specs.Line.{Parts, has_command}
use Rattle.sasl.specs.declared.said.Said.{Said}
use Rattle.sasl.specs.declared.said.Said.TheVariants.{Acknowledged, Failed, Go, LoggedIn, Other}

-- the parameter at this place, counted from 0, passes the test
abbrev pub has_param : (List ℕ → Bool) → ℕ → Parts → Bool
has_param test place line = option_map_or test (slice_get line.params place) false

-- the subcommand of CAP is this
abbrev pub has_subcommand : List ℕ → Parts → Bool
has_subcommand word line = has_param (λ param. str_eq_ignore_ascii_case param word) 1 line

-- the last parameter, which is the list of CAP ACK
abbrev pub last_param : Parts → List ℕ
last_param line = unwrap_or (slice_get line.params (length line.params - 1)) []

-- this is one of the items of a list, which such bytes part
abbrev pub has_item : ℕ → List ℕ → List ℕ → Bool
has_item separator item list = list_any (bytes_eq item) (slice_split (λ b. b == separator) list)

-- `AUTHENTICATE +`
abbrev pub is_go : Parts → Bool
is_go line = has_command line (codes "AUTHENTICATE") && has_param (bytes_eq (codes "+")) 0 line

-- of any line: CAP NAK, CAP ACK with `sasl` in its list, `AUTHENTICATE +`, 903 RPL_SASLSUCCESS and
-- 907 ERR_SASLALREADY, 902 ERR_NICKLOCKED, 904 ERR_SASLFAIL, 905 ERR_SASLTOOLONG, 906
-- ERR_SASLABORTED, 908 RPL_SASLMECHS
abbrev pub said : Parts → Said
said line =
    if has_command line (codes "CAP") && has_subcommand (codes "NAK") line then Failed else
    if has_command line (codes "CAP")
    && (has_subcommand (codes "ACK") line && has_item 32 (codes "sasl") (last_param line))
    then Acknowledged else
    if is_go line then Go else
    if has_command line (codes "903") || has_command line (codes "907") then LoggedIn else
    if has_command line (codes "902") || (has_command line (codes "904")
    || (has_command line (codes "905") || (has_command line (codes "906")
    || has_command line (codes "908")))) then Failed else Other
