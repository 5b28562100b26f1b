-- What a login sends, and how it ends, after a list of lines of the network (IRCv3 sasl 3.1).
use Rattle.std.specs.Prelude.{ℕ, Bool, true, false, ◌≡◌, ◌&&◌, ◌||◌, not, List, [], ◌∷◌, ◌++◌}
use Rattle.std.specs.Prelude.{if◌then◌else◌, Some, None}
use Rattle.std.specs.List.{list_any}
use Rattle.irc_line.specs.Line.{Parts}
use Rattle.sasl.specs.Response.{Account, authenticate, cap_end, mechanism_of, response_lines}
use Rattle.sasl.specs.Response.{response_of}
use Rattle.sasl.specs.Said.{said}
use Rattle.sasl.specs.declared.said.Said.{Said}
use Rattle.sasl.specs.declared.said.Said.TheVariants as says
use Rattle.sasl.specs.declared.login.LoginStep.{LoginStep}
use Rattle.sasl.specs.declared.login.LoginStep.TheVariants as step

abbrev pub is_acknowledgement : Said → Bool
is_acknowledgement says.Acknowledged = true
is_acknowledgement _ = false

abbrev pub is_request : Said → Bool
is_request says.Go = true
is_request _ = false

abbrev pub is_refusal : Said → Bool
is_refusal says.Failed = true
is_refusal _ = false

abbrev pub is_success : Said → Bool
is_success says.LoggedIn = true
is_success _ = false

-- one of the lines has acknowledged `sasl`
abbrev pub is_acknowledged : List Parts → Bool
is_acknowledged lines = list_any (λ line. is_acknowledgement (said line)) lines

-- one of the lines says that we are logged in
abbrev pub is_logged_in : List Parts → Bool
is_logged_in lines = list_any (λ line. is_success (said line)) lines

-- the line, after these, asks for the response, and the network has acknowledged `sasl` before
abbrev pub asks_behind : List Parts → Parts → Bool
asks_behind before line = is_acknowledged before && is_request (said line)

-- one of the lines, after those before it, asked for the response
abbrev pub asked_behind : List Parts → List Parts → Bool
asked_behind before [] = false
asked_behind before (line ∷ lines) =
    asks_behind before line || asked_behind (before ++ line ∷ []) lines

abbrev pub was_asked : List Parts → Bool
was_asked lines = asked_behind [] lines

-- the response is sent for this line: it asks, and none before it did
abbrev pub is_answered : List Parts → Parts → Bool
is_answered before line = asks_behind before line && not (was_asked before)

-- the line says that we are not logged in, and won't be
abbrev pub is_failure : Parts → Bool
is_failure line = is_refusal (said line)

-- nothing; lines are sent; we are not logged in, and won't be
pub data Answer : Type 0 where
  nothing : Answer
  sends : List Parts → Answer
  fails : Answer

abbrev pub is_failed : Answer → Bool
is_failed fails = true
is_failed _ = false

abbrev pub answer_by : Account → List Parts → Parts → Said → Answer
answer_by account before line says.Acknowledged =
    sends (authenticate (mechanism_of account) ∷ [])
answer_by account before line says.Go =
    if is_answered before line then sends (response_lines (response_of account)) else nothing
answer_by account before line says.LoggedIn = sends (cap_end ∷ [])
answer_by account before line says.Failed = fails
answer_by account before line says.Other = nothing

-- the answer to a line after these
abbrev pub answer_to : Account → List Parts → Parts → Answer
answer_to account before line = answer_by account before line (said line)

-- the answer that a step is
abbrev pub answer_of : LoginStep → Answer
answer_of step.Nothing = nothing
answer_of (step.Send lines) = sends lines.items
answer_of step.Failed = fails

-- what a login knows
pub record Progress : Type 0 where
  pub is_plain : Bool
  pub response : List ℕ
  pub is_acknowledged : Bool
  pub was_asked : Bool
  pub is_logged_in : Bool

abbrev pub mechanism_named : Bool → List ℕ
mechanism_named plain = if plain then mechanism_of (Some ([], [])) else mechanism_of None

-- a login to this account has taken these lines
abbrev pub HasTaken : Account → List Parts → Progress → Type 0
HasTaken account lines login = record {
  mechanism : mechanism_named login.is_plain ≡ mechanism_of account;
  response : login.response ≡ response_of account;
  is_acknowledged : login.is_acknowledged ≡ is_acknowledged lines;
  was_asked : login.was_asked ≡ was_asked lines;
  is_logged_in : login.is_logged_in ≡ is_logged_in lines;
}
