-- What a client asks for by CAP REQ (IRCv3 capability negotiation): words with spaces between, each
-- the name of a capability, with a minus before it if the client gives it up. Names are
-- compared byte for byte.
use Rattle.std.specs.Prelude.{Bool, true, false, ◌==◌, List, [], ◌∷◌, is_some}
use Rattle.std.specs.Prelude.{if◌then◌else◌}
use Rattle.std.specs.List.{list_all, filter_map}
use Rattle.std.specs.Option.{option_map, unwrap_or}
use Rattle.std.specs.Str.{bytes_eq}
use Rattle.std.proofs.Common.{Option, Some, None}
use Rattle.irc_support.specs.Text.{Text}
use Rattle.irc_support.specs.NamesReply.{words_between}
use Rattle.net_view.specs.LookBack.{last_in}
use Rattle.client_caps.specs.Caps.{Cap, Caps, cap_name, cap_named, caps_that, holds}

-- what a word asks for: which capability, and whether it is to be held
abbrev pub wish_of : Text → Option (Cap × Bool)
wish_of [] = None
wish_of (b ∷ name) =
    if b == 45 then option_map (λ cap. (cap, false)) (cap_named name) else option_map
    (λ cap. (cap, true)) (cap_named (b ∷ name))

-- what a wish says of a capability: something if it names that one
abbrev pub says_held : Cap → Cap × Bool → Option Bool
says_held cap wish = if bytes_eq (cap_name wish.0) (cap_name cap) then Some wish.1 else None

-- the capabilities after these wishes: each is held as the last wish for it says, else as before
abbrev pub caps_after : Caps → List (Cap × Bool) → Caps
caps_after caps wishes =
    caps_that (λ cap. unwrap_or (last_in (says_held cap) wishes) (holds caps cap))

-- the capabilities after a request, which is taken whole; none if a word asks for nothing that
-- is known
unfoldable pub request_of : Caps → Text → Option Caps
request_of caps text =
    if list_all (λ word. is_some (wish_of word)) (words_between text) then Some
    (caps_after caps (filter_map wish_of (words_between text))) else None
