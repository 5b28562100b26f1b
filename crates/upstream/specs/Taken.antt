-- The state of a registration after a list of lines.
use Rattle.std.specs.Prelude.{◌≡◌, false, List, Option, Some, None, is_some, length}
use Rattle.irc_line.specs.Line.{Parts}
use Rattle.bnc_config.specs.Settings.{NetworkSettings, SaslSettings}
use Rattle.sasl.specs.Login as login
use Rattle.upstream.specs.Registration.{Answer, sends, welcomes, fails, has_ended, join_lines}
use Rattle.upstream.specs.Registration.{is_login_offered, offered_by, tries_in}
use Rattle.upstream.specs.Progress.{Progress}
use Rattle.upstream.specs.declared.account.AccountLogin.{AccountLogin}
use Rattle.upstream.specs.declared.registration.Step.{Step}
use Rattle.upstream.specs.declared.registration.Step.TheVariants.{Send, Done, Fault}

-- the answer that a step is
abbrev pub answer_of : Step → Answer
answer_of (Send lines) = sends lines.items
answer_of (Done lines) = welcomes lines.items
answer_of (Fault f) = fails f

-- a login to this account has taken these lines
abbrev pub IsLogin : SaslSettings → List Parts → AccountLogin → Type 0
IsLogin account lines known = record {
  taken : login.HasTaken account lines known.login;
  offered : known.is_offered ≡ is_login_offered account lines;
}

-- there is a login if one is wanted
abbrev pub IsLoginAt : Option SaslSettings → List Parts → Option AccountLogin → Type 0
IsLoginAt None lines None = Unit {0}
IsLoginAt (Some account) lines (Some known) = IsLogin account lines known
IsLoginAt _ lines _ = ⊥

-- a registration that has not ended knows what the lines said of it
abbrev pub IsAt : NetworkSettings → List Parts → Progress → Type 0
IsAt network lines register = record {
  nick : register.nick ≡ network.nick;
  joins : register.joins ≡ join_lines network;
  offered : register.offered ≡ offered_by lines;
  tries : register.tries ≡ tries_in network lines;
  count : register.count ≡ length lines;
  login : IsLoginAt network.sasl lines register.login;
  nicks : register.has_nicks ≡ is_some network.options.nicks;
}

-- a registration at the network has taken these lines
abbrev pub HasTaken : NetworkSettings → List Parts → Progress → Type 0
HasTaken network lines register = record {
  over : register.is_over ≡ has_ended network lines;
  going : has_ended network lines ≡ false → IsAt network lines register;
}
