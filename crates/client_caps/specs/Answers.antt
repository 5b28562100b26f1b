-- What we answer to what a client asks of us, and not of its network: CAP (IRCv3 capability
-- negotiation) and PING (RFC 2812, section 3.7.2). Commands and subcommands are compared without
-- regard to the case of ASCII letters. Our name, the text of 410 and that a PONG has the first
-- parameter of the PING alone are our own choice.
use Rattle.std.specs.Prelude.{Bool, false, List, [], ◌∷◌, codes, filter, map, slice_get, take}
use Rattle.std.specs.Prelude.{Option, Some, None, if◌then◌else◌, unwrap_or}
use Rattle.std.specs.List.{join_with_byte}
use Rattle.std.specs.Option.{option_map_or}
use Rattle.std.specs.Str.{str_eq_ignore_ascii_case}
use Rattle.irc_line.specs.Line.{Parts, has_command}
use Rattle.irc_line.specs.Writing.{untagged_line}
use Rattle.irc_support.specs.Text.{Text}
use Rattle.client_caps.specs.Caps.{Caps, cap_name, cap_names, holds, offered_caps}
use Rattle.client_caps.specs.Images.{word_at}
use Rattle.client_caps.specs.declared.answers.Asked.{Asked}
use Rattle.client_caps.specs.declared.answers.Asked.TheVariants.{Offered, Held, Change, End}
use Rattle.client_caps.specs.declared.answers.Asked.TheVariants.{Unknown, Ping, Nothing}

-- ---- what is asked

-- the subcommand of a client's CAP, its parameter 0, is this
abbrev pub has_subcommand : Text → Parts → Bool
has_subcommand word line =
    option_map_or (λ param. str_eq_ignore_ascii_case param word) (slice_get line.params 0) false

abbrev pub asked_by_cap : Parts → Asked
asked_by_cap line =
    if has_subcommand (codes "LS") line then Offered else
    if has_subcommand (codes "LIST") line then Held else
    if has_subcommand (codes "REQ") line then Change else
    if has_subcommand (codes "END") line then End else Unknown

-- what a line of a client asks
abbrev pub asked : Parts → Asked
asked line =
    if has_command line (codes "CAP") then asked_by_cap line else
    if has_command line (codes "PING") then Ping else Nothing

-- the capabilities that a request names; a missing text is empty
abbrev pub asked_text : Parts → Text
asked_text line = unwrap_or (slice_get line.params 1) []

-- ---- what is answered

-- a line of ours
abbrev pub from_bouncer : Text → List Text → Parts
from_bouncer command params = untagged_line (Some (codes "bnc")) command params

-- what a client is called: by its nick, if it has one yet
abbrev pub name_shown : Option Text → Text
name_shown nick = unwrap_or nick (codes "*")

-- `:bnc CAP ann LS :text`
abbrev pub cap_line : Option Text → Text → Text → Parts
cap_line nick word text = from_bouncer (codes "CAP") (name_shown nick ∷ word ∷ text ∷ [])

-- the names of those that are held, in the order in which they are offered
abbrev pub names_held : Caps → List Text
names_held caps = map cap_name (filter (holds caps) offered_caps)

-- the subcommand that was not known, if it is a word
abbrev pub subcommand_shown : Parts → Text
subcommand_shown line = unwrap_or (word_at line.params 0) (codes "*")

-- 410 ERR_INVALIDCAPCMD
abbrev pub unknown_line : Option Text → Parts → Parts
unknown_line nick line =
    from_bouncer (codes "410")
    (name_shown nick ∷ subcommand_shown line ∷ codes "Invalid CAP command" ∷ [])

-- `:bnc PONG bnc x`
abbrev pub pong_line : Parts → Parts
pong_line line = from_bouncer (codes "PONG") (codes "bnc" ∷ take 1 line.params)

-- the answer to a line that asks this, of a client with this nick which holds these capabilities;
-- a request is granted or not
abbrev pub answer_for : Option Text → Caps → Bool → Parts → Asked → Option Parts
answer_for nick held granted line Offered =
    Some (cap_line nick (codes "LS") (join_with_byte 32 cap_names))
answer_for nick held granted line Held =
    Some (cap_line nick (codes "LIST") (join_with_byte 32 (names_held held)))
answer_for nick held granted line Change =
    Some (cap_line nick (if granted then codes "ACK" else codes "NAK") (asked_text line))
answer_for nick held granted line End = None
answer_for nick held granted line Unknown = Some (unknown_line nick line)
answer_for nick held granted line Ping = Some (pong_line line)
answer_for nick held granted line Nothing = None

-- the answer to a line; none if it asks for none
abbrev pub answer_to : Option Text → Caps → Bool → Parts → Option Parts
answer_to nick held granted line = answer_for nick held granted line (asked line)
