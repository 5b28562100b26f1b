-- What a login is answered after a list of lines, and how it ends (RFC 2812, section 3.1; IRCv3
-- capability negotiation). The limit of lines and the texts are our own choice.
use Rattle.std.specs.Prelude.{Bool, true, false, ◌||◌, ◌==◌, nat_le, List, [], ◌∷◌}
use Rattle.std.specs.Prelude.{◌++◌, codes, length, is_some, Option, Some, None, if◌then◌else◌}
use Rattle.std.specs.List.{list_any}
use Rattle.std.specs.Option.{option_and_then, option_to_list}
use Rattle.irc_line.specs.Line.{Parts, has_command}
use Rattle.irc_support.specs.Text.{Text}
use Rattle.client_caps.specs.declared.caps.Caps.{Caps}
use Rattle.client_caps.specs.Request.{request_of}
use Rattle.client_caps.specs.Answers.{answer_for, asked, asked_text, from_bouncer}
use Rattle.client_caps.specs.declared.answers.Asked.{Asked}
use Rattle.client_caps.specs.declared.answers.Asked.TheVariants.{Nothing}
use Rattle.sessions.specs.Claims.{ClaimParts, claim_by}
use Rattle.sessions.specs.Given.{held_in, is_complete, pass_in, stages, user_in}

-- lines are sent and it goes on; or it is a claim; or lines are sent and it is over
pub data Answer : Type 0 where
  sends : List Parts → Answer
  claims : ClaimParts → Answer
  closes : List Parts → Answer

-- ---- the lines that are sent

-- a reply to one who has no nick yet
abbrev pub reply : Text → Text → Parts
reply number text = from_bouncer number (codes "*" ∷ text ∷ [])

-- 451 ERR_NOTREGISTERED
abbrev pub not_registered : Parts
not_registered = reply (codes "451") (codes "You have not registered")

-- 464 ERR_PASSWDMISMATCH
abbrev pub password_incorrect : Parts
password_incorrect = reply (codes "464") (codes "Password incorrect")

-- what a login is made of
abbrev pub is_of_login : Parts → Bool
is_of_login line =
    has_command line (codes "NICK")
    || (has_command line (codes "USER") || has_command line (codes "PASS"))

-- a request is granted if it can be taken whole
abbrev pub is_granted : Caps → Parts → Bool
is_granted held line = is_some (request_of held (asked_text line))

-- what a line is answered of a client that holds these capabilities
abbrev pub reply_by : Caps → Parts → Asked → Option Parts
reply_by held line Nothing = if is_of_login line then None else Some not_registered
reply_by held line what = answer_for None held (is_granted held line) line what

-- what is sent for a line that does not end the login
abbrev pub replies : List Parts → Parts → List Parts
replies before line = option_to_list (reply_by (held_in before) line (asked line))

-- ---- how it ends

abbrev pub is_quit : Parts → Bool
is_quit line = has_command line (codes "QUIT")

-- the lines ended a login: one was QUIT, nothing was missing after one of them, or 200 came
abbrev pub has_ended : List Parts → Bool
has_ended lines =
    list_any is_quit lines || (list_any is_complete (stages lines) || nat_le 200 (length lines))

-- what is claimed, if nothing is missing
abbrev pub claim_in : List Parts → Option ClaimParts
claim_in lines =
    option_and_then
    (λ user. option_and_then (λ pass. claim_by user pass (held_in lines)) (pass_in lines))
    (user_in lines)

-- a login that names no network is refused
abbrev pub ends_by : Option ClaimParts → Answer
ends_by (Some claim) = claims claim
ends_by None = closes (password_incorrect ∷ [])

-- the answer to a line after these lines: nothing once it has ended
abbrev pub answer_to : List Parts → Parts → Answer
answer_to before line =
    if has_ended before then sends [] else
    if is_quit line then closes [] else
    if is_complete (before ++ line ∷ []) then ends_by (claim_in (before ++ line ∷ [])) else
    if length before == 199 then closes [] else sends (replies before line)

abbrev pub is_end : Answer → Bool
is_end (sends lines) = false
is_end (claims claim) = true
is_end (closes lines) = true
