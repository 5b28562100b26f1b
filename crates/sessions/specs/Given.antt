-- What the lines of a client's login give (RFC 2812, section 3.1; IRCv3 capability negotiation).
-- Commands are compared without regard to the case of ASCII letters.
use Rattle.std.specs.Prelude.{Bool, true, false, not, ◌&&◌, List, [], ◌∷◌, codes, map}
use Rattle.std.specs.Prelude.{slice_get, is_some, unwrap_or, Option, Some, None, if◌then◌else◌}
use Rattle.std.specs.List.{filter_map, flat_map, list_all}
use Rattle.irc_line.specs.Line.{Parts, has_command}
use Rattle.irc_support.specs.Text.{Text}
use Rattle.irc_support.specs.NamesReply.{words_between}
use Rattle.net_view.specs.LookBack.{last_in}
use Rattle.client_caps.specs.Caps.{no_caps}
use Rattle.client_caps.specs.declared.caps.Cap.{Cap}
use Rattle.client_caps.specs.declared.caps.Caps.{Caps}
use Rattle.client_caps.specs.Request.{caps_after, wish_of}
use Rattle.client_caps.specs.Answers.{asked, asked_text}
use Rattle.client_caps.specs.declared.answers.Asked.{Asked}
use Rattle.client_caps.specs.declared.answers.Asked.TheVariants.{Offered, Change, End}
use Rattle.sessions.specs.declared.negotiation.Negotiation.{Negotiation}

-- ---- NICK, USER and PASS

-- the parameter 0 of a line of this command; a line without one gives nothing
abbrev pub given : Text → Parts → Option Text
given command line = if has_command line command then slice_get line.params 0 else None

-- a later line replaces the earlier
abbrev pub nick_in : List Parts → Option Text
nick_in lines = last_in (given (codes "NICK")) lines

abbrev pub user_in : List Parts → Option Text
user_in lines = last_in (given (codes "USER")) lines

abbrev pub pass_in : List Parts → Option Text
pass_in lines = last_in (given (codes "PASS")) lines

-- ---- CAP

-- whether a line opens the negotiation, or closes it
abbrev pub opens : Asked → Option Bool
opens Offered = Some true
opens Change = Some true
opens End = Some false
opens _ = None

-- a negotiation is open from CAP LS or CAP REQ on, until CAP END; a later one opens it again
abbrev pub is_open : List Parts → Bool
is_open lines = unwrap_or (last_in (λ line. opens (asked line)) lines) false

-- what a text wishes, if it can be taken whole; else nothing
abbrev pub wishes_in : Text → List (Cap × Bool)
wishes_in text =
    if list_all (λ word. is_some (wish_of word)) (words_between text) then filter_map wish_of
    (words_between text) else []

-- what a line wishes, if it is a CAP REQ
abbrev pub wishes_by : Parts → Asked → List (Cap × Bool)
wishes_by line Change = wishes_in (asked_text line)
wishes_by line _ = []

-- the capabilities that are held: each as the last wish for it says, of the requests that could be
-- taken whole
abbrev pub held_in : List Parts → Caps
held_in lines = caps_after no_caps (flat_map (λ line. wishes_by line (asked line)) lines)

-- the state of the negotiation
abbrev pub negotiation_in : List Parts → Negotiation
negotiation_in lines = record { is_open = is_open lines; held = held_in lines }

-- ---- what there is of a login

-- NICK and USER are there, and no negotiation is open
abbrev pub is_ready : List Parts → Bool
is_ready lines = is_some (nick_in lines) && (is_some (user_in lines) && not (is_open lines))

-- nothing is missing
abbrev pub is_complete : List Parts → Bool
is_complete lines = is_ready lines && is_some (pass_in lines)

-- the lines so far, after none of them, after the first and so on
abbrev pub stages : List Parts → List (List Parts)
stages [] = [] ∷ []
stages (line ∷ lines) = [] ∷ map (λ rest. line ∷ rest) (stages lines)
