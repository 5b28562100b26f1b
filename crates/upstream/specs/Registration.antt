-- What a registration sends, and how it ends, after a list of lines of the network (RFC 2812,
-- section 3.1; IRCv3 capability negotiation). How often another nick is tried, that it gets a mark
-- more each time, and the limit of lines are our own choice.
use Rattle.std.specs.Prelude.{ℕ, ◌+◌, Bool, true, false, ◌&&◌, ◌||◌, ◌==◌, nat_le, List, []}
use Rattle.std.specs.Prelude.{◌∷◌, ◌++◌}
use Rattle.std.specs.Prelude.{length, map, filter, count_by, codes, unwrap_or, replicate}
use Rattle.std.specs.Prelude.{position, take}
use Rattle.std.specs.Prelude.{Option, Some, None, if◌then◌else◌, is_some, not}
use Rattle.std.specs.List.{join_by, list_any, slice_split}
use Rattle.std.specs.Str.{bytes_eq}
use Rattle.irc_line.specs.Line.{Parts}
use Rattle.irc_line.specs.Writing.{untagged_line}
use Rattle.bnc_config.specs.Settings.{ChannelKey, NetworkSettings, SaslSettings, key_by}
use Rattle.irc_names.specs.declared.case_mapping.CaseMapping.{CaseMapping}
use Rattle.irc_names.specs.declared.case_mapping.CaseMapping.TheVariants.{Ascii}
use Rattle.sasl.specs.Login as login
use Rattle.sasl.specs.Offer as sasl_offer
use Rattle.sasl.specs.Response.{mechanism_of}
use Rattle.sasl.specs.Said.{last_param}
use Rattle.upstream.specs.Said.{heard_by, said}
use Rattle.upstream.specs.declared.offers.Offered.{Offered}
use Rattle.upstream.specs.declared.registration.RegisterFault.{RegisterFault}
use Rattle.upstream.specs.declared.registration.RegisterFault.TheVariants as fault
use Rattle.upstream.specs.declared.said.Said.{Said}
use Rattle.upstream.specs.declared.said.Said.TheVariants as says

-- ---- what lines are sent

-- a line of ours
abbrev pub command : List ℕ → List (List ℕ) → Parts
command name params = untagged_line None name params

abbrev pub pass_lines : Option (List ℕ) → List Parts
pass_lines None = []
pass_lines (Some password) = command (codes "PASS") (password ∷ []) ∷ []

abbrev pub nick_line : List ℕ → Parts
nick_line nick = command (codes "NICK") (nick ∷ [])

abbrev pub user_line : NetworkSettings → Parts
user_line network =
    command (codes "USER") (network.user ∷ codes "0" ∷ codes "*" ∷ network.realname ∷ [])

-- the settings with another nick
abbrev pub asked_as : NetworkSettings → List ℕ → NetworkSettings
asked_as network nick = record network { nick = nick }

-- what is sent before a line has come
abbrev pub first_lines : NetworkSettings → List Parts
first_lines network =
    command (codes "CAP") (codes "LS" ∷ codes "302" ∷ [])
    ∷ (pass_lines network.password ++ (nick_line network.nick ∷ user_line network ∷ []))

-- the nick with this many marks after it
abbrev pub marked : List ℕ → ℕ → List ℕ
marked nick marks = nick ++ replicate marks 95

abbrev pub cap_end : Parts
cap_end = command (codes "CAP") (codes "END" ∷ [])

-- the request for these capabilities, in one parameter; if there are none, the negotiation ends
abbrev pub request_of : List (List ℕ) → Parts
request_of [] = cap_end
request_of (name ∷ names) =
    command (codes "CAP") (codes "REQ" ∷ join_by (λ n. n) (32 ∷ []) (name ∷ names) ∷ [])

-- PING's parameters come back
abbrev pub pong_line : Parts → Parts
pong_line line = command (codes "PONG") line.params

abbrev pub key_params : Option (List ℕ) → List (List ℕ)
key_params None = []
key_params (Some key) = key ∷ []

-- a channel is joined with its key under a mapping, if the settings have one (RFC 2812, section 3.2.1)
abbrev pub join_line : CaseMapping → List ChannelKey → List ℕ → Parts
join_line mapping keys channel =
    command (codes "JOIN") (channel ∷ key_params (key_by mapping keys channel))

-- a line for each channel, in the order of the settings
abbrev pub channel_lines_by : CaseMapping → NetworkSettings → List Parts
channel_lines_by mapping network = map (join_line mapping network.options.keys) network.join

-- the same before the network has said which mapping it has
abbrev pub channel_lines : NetworkSettings → List Parts
channel_lines = channel_lines_by Ascii

-- what is sent once we are in: if the settings have lines to be sent before the channels are joined,
-- nothing
abbrev pub join_lines : NetworkSettings → List Parts
join_lines network =
    if length network.options.on_connect == 0 then channel_lines network else []

-- ---- the capabilities that are asked for

-- those that we can use, in the order of a request
abbrev pub our_caps : List (List ℕ)
our_caps =
    codes "multi-prefix" ∷ codes "extended-join" ∷ codes "account-notify" ∷ codes "away-notify"
    ∷ codes "server-time" ∷ []

abbrev pub is_list : Said → Bool
is_list says.List = true
is_list says.LastList = true
is_list _ = false

-- the text of a word before its first `=`, else the word
abbrev pub before_value : List ℕ → List ℕ
before_value word = take (unwrap_or (position (λ b. b == 61) word) (length word)) word

-- a word of the list offers the capability of this name
abbrev pub is_word_for : List ℕ → List ℕ → Bool
is_word_for name word = bytes_eq (before_value word) name

-- the line has a list in which the capability of this name is offered
abbrev pub offers : List ℕ → Parts → Bool
offers name line =
    is_list (said line)
    && list_any (is_word_for name) (slice_split (λ b. b == 32) (last_param line))

-- the capability of this name was offered by one of the lines
abbrev pub is_offered : List Parts → List ℕ → Bool
is_offered lines name = list_any (offers name) lines

-- which of ours were offered by the lines
abbrev pub offered_by : List Parts → Offered
offered_by lines = record {
  multi_prefix = is_offered lines (codes "multi-prefix");
  extended_join = is_offered lines (codes "extended-join");
  account_notify = is_offered lines (codes "account-notify");
  away_notify = is_offered lines (codes "away-notify");
  server_time = is_offered lines (codes "server-time");
}

-- a name, if it was offered
abbrev pub named : Bool → List ℕ → List (List ℕ)
named true name = name ∷ []
named false name = []

-- the names of those that were offered, in the order of a request
abbrev pub names_of : Offered → List (List ℕ)
names_of offered =
    named offered.multi_prefix (codes "multi-prefix")
    ++ (named offered.extended_join (codes "extended-join")
    ++ (named offered.account_notify (codes "account-notify")
    ++ (named offered.away_notify (codes "away-notify")
    ++ named offered.server_time (codes "server-time"))))

-- ---- the login to an account, if the settings have one

-- the line has a list that offers a login by the account's mechanism
abbrev pub offers_login : SaslSettings → Parts → Bool
offers_login account line =
    is_list (said line) && sasl_offer.offers (mechanism_of account) (last_param line)

abbrev pub is_login_offered : SaslSettings → List Parts → Bool
is_login_offered account lines = list_any (offers_login account) lines

abbrev pub is_last_list : Said → Bool
is_last_list says.LastList = true
is_last_list _ = false

-- what a login does for a line after these: it fails if the last list has come and none offered it
-- (IRCv3 sasl 3.1, 3.2); else as `sasl` has it
abbrev pub account_answer : SaslSettings → List Parts → Parts → login.Answer
account_answer account before line =
    if is_last_list (said line) && not (is_login_offered account (before ++ line ∷ []))
    then login.fails else login.answer_to account before line

abbrev pub answer_of_login : Option SaslSettings → List Parts → Parts → login.Answer
answer_of_login None before line = login.nothing
answer_of_login (Some account) before line = account_answer account before line

-- the login failed at one of the lines, after those before it
abbrev pub fails_behind : Option SaslSettings → List Parts → List Parts → Bool
fails_behind account before [] = false
fails_behind account before (line ∷ lines) =
    login.is_failed (answer_of_login account before line)
    || fails_behind account (before ++ line ∷ []) lines

abbrev pub has_login_failed : NetworkSettings → List Parts → Bool
has_login_failed network lines = fails_behind network.sasl [] lines

-- no login is wanted, or the network has said that we are logged in
abbrev pub needs_no_login : Option SaslSettings → List Parts → Bool
needs_no_login None lines = true
needs_no_login (Some account) lines = login.is_logged_in lines

-- ---- how it ends

-- what a line says to a registration by these settings
abbrev pub heard : NetworkSettings → Parts → Said
heard network line = heard_by (is_some network.options.nicks) line

abbrev pub is_in_use : Said → Bool
is_in_use says.NickInUse = true
is_in_use _ = false

-- how many of the lines say that the nick is another's
abbrev pub tries_in : NetworkSettings → List Parts → ℕ
tries_in network lines = count_by (λ line. is_in_use (heard network line)) lines

-- a line that ends a registration wherever it comes
abbrev pub is_final : Said → Bool
is_final says.Welcome = true
is_final says.BadNick = true
is_final says.Refused = true
is_final _ = false

-- the lines ended a registration: one of them ended it, the login failed, the nick was another's
-- four times, or 10,000 came (that each of these is one end, and there is no other, is a law:
-- `laws::a_registration_ends_once`)
abbrev pub has_ended : NetworkSettings → List Parts → Bool
has_ended network lines =
    list_any (λ line. is_final (heard network line)) lines
    || (has_login_failed network lines
    || (nat_le 4 (tries_in network lines) || nat_le 10000 (length lines)))

-- ---- the answer to a line

-- lines are sent and it goes on; or we are in, and lines are sent; or it failed
pub data Answer : Type 0 where
  sends : List Parts → Answer
  welcomes : List Parts → Answer
  fails : RegisterFault → Answer

-- after 9,999 lines without an end the next is one
abbrev pub fault_by_count : List Parts → Option RegisterFault
fault_by_count before = if length before == 9999 then Some fault.NoWelcome else None

-- the fault that a line which says this is, after lines that have not ended the registration
abbrev pub fault_of : NetworkSettings → List Parts → Said → Option RegisterFault
fault_of network before says.Welcome = None
fault_of network before says.BadNick = Some fault.BadNick
fault_of network before says.Refused = Some fault.Refused
fault_of network before says.NickInUse =
    if tries_in network before == 3 then Some fault.NickInUse else fault_by_count before
fault_of network before _ = fault_by_count before

-- what is sent for a line which says this, after lines that have not ended the registration, if the
-- login sends nothing for it; with a login the negotiation of capabilities ends by the login
abbrev pub reply_to : NetworkSettings → List Parts → Parts → Said → List Parts
reply_to network before line says.LastList =
    request_of (filter (is_offered (before ++ line ∷ [])) our_caps
    ++ named (is_some network.sasl) (codes "sasl")) ∷ []
reply_to network before line says.CapAnswered = if is_some network.sasl then [] else cap_end ∷ []
reply_to network before line says.NickInUse =
    nick_line (marked network.nick (tries_in network before + 1)) ∷ []
reply_to network before line says.Ping = pong_line line ∷ []
reply_to network before line _ = []

abbrev pub is_welcome : Said → Bool
is_welcome says.Welcome = true
is_welcome _ = false

abbrev pub fails_or : Option RegisterFault → Answer → Answer
fails_or (Some f) answer = fails f
fails_or None answer = answer

abbrev pub login_or : login.Answer → List Parts → Answer
login_or login.nothing lines = sends lines
login_or (login.sends lines) _ = sends lines
login_or login.fails _ = fails fault.SaslFailed

-- a welcome is a fault as long as we are not logged in
abbrev pub answer_to_welcome : NetworkSettings → List Parts → Answer
answer_to_welcome network before =
    if needs_no_login network.sasl before then welcomes (join_lines network)
    else fails fault.SaslFailed

-- the answer to a line after these lines: nothing once it has ended
abbrev pub answer_to : NetworkSettings → List Parts → Parts → Answer
answer_to network before line =
    if has_ended network before then sends [] else
    if is_welcome (heard network line) then answer_to_welcome network before else
    fails_or (fault_of network before (heard network line))
    (login_or (answer_of_login network.sasl before line)
    (reply_to network before line (heard network line)))

abbrev pub is_end : Answer → Bool
is_end (sends lines) = false
is_end (welcomes lines) = true
is_end (fails f) = true
