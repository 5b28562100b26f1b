-- The state of a login after a list of lines.
use Rattle.std.specs.Prelude.{◌≡◌, false, List, length, is_some}
use Rattle.irc_line.specs.Line.{Parts}
use Rattle.sessions.specs.Claims.{parts_of}
use Rattle.sessions.specs.Given.{negotiation_in, nick_in, pass_in, user_in}
use Rattle.sessions.specs.Answers.{Answer, sends, claims, closes, has_ended}
use Rattle.sessions.specs.Progress.{Progress}
use Rattle.sessions.specs.declared.login.LoginStep.{LoginStep}
use Rattle.sessions.specs.declared.login.LoginStep.TheVariants.{Send, Done, Closed}

-- the answer that a step is
abbrev pub answer_of : LoginStep → Answer
answer_of (Send lines) = sends lines.items
answer_of (Done claim) = claims (parts_of claim)
answer_of (Closed lines) = closes lines.items

-- a login that has not ended knows what the lines gave
abbrev pub IsAt : List Parts → Progress → Type 0
IsAt lines login = record {
  nick : login.has_nick ≡ is_some (nick_in lines);
  user : login.user ≡ user_in lines;
  pass : login.pass ≡ pass_in lines;
  negotiation : login.negotiation ≡ negotiation_in lines;
  count : login.count ≡ length lines;
}

-- a login has taken these lines
abbrev pub HasTaken : List Parts → Progress → Type 0
HasTaken lines login = record {
  over : login.is_over ≡ has_ended lines;
  going : has_ended lines ≡ false → IsAt lines login;
}
