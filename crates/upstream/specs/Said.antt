-- What a line of a network says to one who registers (RFC 2812, sections 3.1 and 5; IRCv3
-- capability negotiation). Commands and subcommands are compared without regard to the case of
-- ASCII letters; that the subcommand of CAP is parameter 1, and its list the last, is our own
-- choice.
use Rattle.std.specs.Prelude.{◌&&◌, ◌||◌, ◌==◌, Bool, length, codes}
use Rattle.std.specs.Prelude.{if◌then◌else◌}
use Rattle.std.specs.Str.{bytes_eq}
use Rattle.irc_line.specs.Line.{Parts, has_command}
use Rattle.irc_names.specs.Nick.{is_nameable}
use Rattle.sasl.specs.Said.{has_param, has_subcommand}
use Rattle.upstream.specs.declared.said.Said.{Said}
use Rattle.upstream.specs.declared.said.Said.TheVariants.{BadNick, CapAnswered, LastList}
use Rattle.upstream.specs.declared.said.Said.TheVariants.{List as SomeList}
use Rattle.upstream.specs.declared.said.Said.TheVariants.{NickInUse, Other, Ping, Refused, Welcome}

-- of a CAP line: `CAP * LS * :names` has some names of several lists, `CAP * LS :names` the last or
-- the only ones; `CAP * ACK` and `CAP * NAK` answer a request
abbrev pub said_by_cap : Parts → Said
said_by_cap line =
    if has_subcommand (codes "LS") line && length line.params == 3 then LastList else
    if has_subcommand (codes "LS") line
    && (length line.params == 4 && has_param (bytes_eq (codes "*")) 2 line)
    then SomeList else
    if has_subcommand (codes "ACK") line
    || has_subcommand (codes "NAK") line then CapAnswered else Other

-- of any line: 001 RPL_WELCOME with a nick of ours, 432 ERR_ERRONEUSNICKNAME, 433
-- ERR_NICKNAMEINUSE, 464 ERR_PASSWDMISMATCH, ERROR, PING
abbrev pub said : Parts → Said
said line =
    if has_command line (codes "001") && has_param is_nameable 0 line then Welcome else
    if has_command line (codes "CAP") then said_by_cap line else
    if has_command line (codes "433") then NickInUse else
    if has_command line (codes "432") then BadNick else
    if has_command line (codes "464") || has_command line (codes "ERROR") then Refused else
    if has_command line (codes "PING") then Ping else Other

-- The same to a registration that has further nicks, or none: with them 437 ERR_UNAVAILRESOURCE says
-- what 433 does (RFC 2812, section 5.2). Without them it says nothing (our own choice).
abbrev pub heard_by : Bool → Parts → Said
heard_by has_nicks line =
    if has_nicks && has_command line (codes "437") then NickInUse else said line
