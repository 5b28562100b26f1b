-- What each line says, read by the settings in force before it. Only this file knows commands and
-- parameters; parameters count from 0. Nothing is said about a nick that is not nameable, and an
-- actor that is not is dropped before its key is asked (our own choice).
use Rattle.std.specs.Prelude.{ℕ, suc, Bool, true, false, drop, List, [], ◌∷◌, slice_get}
use Rattle.std.specs.Prelude.{if◌then◌else◌}
use Rattle.std.specs.List.{filter_map, list_any}
use Rattle.std.specs.Option.{option_and_then, option_map, unwrap_or}
use Rattle.std.proofs.Common.{Option, Some, None, codes}
use Rattle.irc_line.specs.Line.{Parts, nick_of, has_command}
use Rattle.irc_names.specs.Nick.{is_nameable}
use Rattle.irc_support.specs.Text.{Text, is_word}
use Rattle.irc_support.specs.Tokens.{Token}
use Rattle.irc_support.specs.Ranking.{rank_of_letter}
use Rattle.irc_support.specs.ChanModes.{kind_of}
use Rattle.irc_support.specs.Settings.{key_by, is_channel}
use Rattle.irc_support.specs.ModeChanges.{ChangeParts, changes}
use Rattle.irc_support.specs.NamesReply.{Word, words}
use Rattle.irc_support.specs.declared.kind.Kind.{Kind}
use Rattle.irc_support.specs.declared.kind.Kind.TheVariants.{Prefix, A, B, C, D, Unknown}
use Rattle.net_view.specs.Names.{same, Name, name_of, nameable}
use Rattle.net_view.specs.Told.{Told, LetterChange, ModeChange, Listing, Silent, Welcomed, Supports}
use Rattle.net_view.specs.Told.{Settles, Joined, Parted, Kicked, Quits, Renamed, Changed, Listed}
use Rattle.net_view.specs.Told.{Titled, Present, HasAccount, IsAway, Disconnected}
use Rattle.net_view.specs.Arrival.{Arrival, Received, Lost}

-- ---- parts of a line

-- what the parameter at a place gives, if it is there
abbrev pub with : {A : Type 0} → Parts → ℕ → (Text → Option A) → Option A
with line i give = option_and_then give (slice_get line.params i)

-- the nick of the source, if it is nameable
abbrev pub actor_nick : Parts → Option Text
actor_nick line =
    option_and_then (λ source. if is_nameable (nick_of source) then Some (nick_of source) else None)
    line.source

-- who a line comes from
abbrev pub actor : List Token → Parts → Option Name
actor settings line = option_map (name_of settings) (actor_nick line)

-- if nothing is found, nothing is said
abbrev pub or_silent : Option Told → Told
or_silent told = unwrap_or told Silent

-- an empty text is none
abbrev pub unless_empty : Text → Option Text
unless_empty [] = None
unless_empty (b ∷ text) = Some (b ∷ text)

-- an account name, `*` for none; what is no word says nothing (IRCv3 extended-join, account-notify)
abbrev pub account_said : Text → Option (Option Text)
account_said text =
    if is_word text then Some (if same text (codes "*") then None else Some text) else None

-- ---- changes of modes (RFC 2812, section 3.2.3; CHANMODES of the isupport draft, section 3.3)

-- a change of a rank's letter, if it names a nick
abbrev pub letter_change : List Token → ChangeParts → Option LetterChange
letter_change settings change = option_and_then (λ rank.
    option_map (λ (nick : Name). record {
      plus = change.plus;
      rank = rank;
      person = nick.key;
    }) (option_and_then (nameable settings) change.param))
    (rank_of_letter settings change.letter)

-- a parameter that is a word
abbrev pub word_param : Option Text → Option (Option Text)
word_param param = option_and_then (λ text. if is_word text then Some (Some text) else None) param

-- on with that parameter, or off; if no parameter was found nothing is said
abbrev pub switched : Bool → Option (Option Text) → Option (Option (Option Text))
switched true param = option_map Some param
switched false param = option_map (λ _. None) param

-- The setting that a change of a letter of this kind makes, set or unset, with the parameter that
-- it took: B with one, C with one when it is set, D without. A letter of PREFIX gives a rank; what
-- A and letters that the network did not name do is not kept.
abbrev pub setting_by : Kind → Bool → Option Text → Option (Option (Option Text))
setting_by Prefix plus param = None
setting_by A plus param = None
setting_by B plus param = switched plus (word_param param)
setting_by C true param = switched true (word_param param)
setting_by C false param = Some None
setting_by D plus param = switched plus (Some None)
setting_by Unknown plus param = None

-- a change of a mode, if it is kept
abbrev pub mode_change : List Token → ChangeParts → Option ModeChange
mode_change settings change =
    option_map (λ setting. record {
      letter = change.letter;
      setting = setting;
    }) (setting_by (kind_of settings change.letter) change.plus change.param)

-- a word of a name list, if its nick is nameable
abbrev pub listing : List Token → Word → Option Listing
listing settings word =
    option_map (λ nick. record { person = nick; ranks = word.ranks }) (nameable settings word.nick)

-- ---- the state lines

-- 001 RPL_WELCOME: nick (RFC 2812, section 5.1)
abbrev pub told_by_welcome : List Token → Parts → Told
told_by_welcome settings line =
    or_silent (with line 0 (λ nick. if is_nameable nick then Some (Welcomed nick) else None))

-- 005 RPL_ISUPPORT (isupport draft, section 2)
abbrev pub told_by_isupport : List Token → Parts → Told
told_by_isupport settings line = Supports line.params

-- 376 RPL_ENDOFMOTD and 422 ERR_NOMOTD (RFC 2812, sections 5.1 and 5.2) fix the settings (our own
-- choice)
abbrev pub told_by_end_of_motd : List Token → Parts → Told
told_by_end_of_motd settings line = Settles

-- JOIN channel [account]: it fixes the settings in any case (RFC 2812, section 3.2.1; IRCv3
-- extended-join)
abbrev pub told_by_join : List Token → Parts → Told
told_by_join settings line = unwrap_or (with line 0 (λ c. option_map (λ who.
    Joined (name_of settings c) (is_channel settings c) who (with line 1 account_said))
    (actor settings line))) Settles

-- PART channel (RFC 2812, section 3.2.2)
abbrev pub told_by_part : List Token → Parts → Told
told_by_part settings line =
    or_silent
    (with line 0
    (λ c. option_map (λ (who : Name). Parted (key_by settings c) who.key)
    (actor settings line)))

-- KICK channel nick, by anyone (RFC 2812, section 3.2.8)
abbrev pub told_by_kick : List Token → Parts → Told
told_by_kick settings line =
    or_silent
    (with line 0
    (λ c. with line 1
    (λ nick. option_map (λ (who : Name). Kicked (key_by settings c) who.key)
    (nameable settings nick))))

-- QUIT (RFC 2812, section 3.1.7)
abbrev pub told_by_quit : List Token → Parts → Told
told_by_quit settings line =
    or_silent (option_map (λ (who : Name). Quits who.key) (actor settings line))

-- NICK nick (RFC 2812, section 3.1.2)
abbrev pub told_by_nick : List Token → Parts → Told
told_by_nick settings line =
    or_silent
    (with line 0
    (λ nick. option_and_then
    (λ (old : Name). option_map (λ new. Renamed old.key new) (nameable settings nick))
    (actor settings line)))

-- MODE channel letters arguments (RFC 2812, section 3.2.3)
abbrev pub told_by_mode : List Token → Parts → Told
told_by_mode settings line = or_silent (with line 0 (λ c. Some (Changed (key_by settings c)
    (filter_map (letter_change settings) (changes settings (drop 1 line.params)))
    (filter_map (mode_change settings) (changes settings (drop 1 line.params))))))

-- 324 RPL_CHANNELMODEIS: us, channel, letters, arguments (RFC 2812, section 5.1)
abbrev pub told_by_mode_reply : List Token → Parts → Told
told_by_mode_reply settings line =
    or_silent
    (with line 1
    (λ c. Some
    (Listed (key_by settings c)
    (filter_map (mode_change settings) (changes settings (drop 2 line.params))))))

-- a topic with its channel at a place; an empty one is none, and without one nothing is said
abbrev pub told_by_topic_at : ℕ → List Token → Parts → Told
told_by_topic_at i settings line =
    or_silent
    (with line i
    (λ c. with line (suc i)
    (λ text. Some (Titled (key_by settings c) (unless_empty text)))))

-- TOPIC channel text (RFC 2812, section 3.2.4)
abbrev pub told_by_topic : List Token → Parts → Told
told_by_topic settings line = told_by_topic_at 0 settings line

-- 332 RPL_TOPIC: us, channel, text (RFC 2812, section 5.1)
abbrev pub told_by_topic_reply : List Token → Parts → Told
told_by_topic_reply settings line = told_by_topic_at 1 settings line

-- 331 RPL_NOTOPIC: us, channel (RFC 2812, section 5.1)
abbrev pub told_by_no_topic : List Token → Parts → Told
told_by_no_topic settings line =
    or_silent (with line 1 (λ c. Some (Titled (key_by settings c) None)))

-- the members that a text of words names
abbrev pub listings_of : List Token → Text → List Listing
listings_of settings text = filter_map (listing settings) (words settings text)

-- 353 RPL_NAMREPLY: us, a symbol, channel, words; missing words count as none (RFC 2812, section
-- 5.1; IRCv3 multi-prefix)
abbrev pub told_by_names : List Token → Parts → Told
told_by_names settings line =
    or_silent
    (with line 2
    (λ c. Some
    (Present (key_by settings c)
    (listings_of settings (unwrap_or (slice_get line.params 3) [])))))

-- ACCOUNT name (IRCv3 account-notify)
abbrev pub told_by_account : List Token → Parts → Told
told_by_account settings line =
    or_silent
    (option_and_then
    (λ (who : Name). with line 0
    (λ text. option_map (HasAccount who.key) (account_said text)))
    (actor settings line))

-- AWAY [text]; a missing or empty text is none (IRCv3 away-notify)
abbrev pub told_by_away : List Token → Parts → Told
told_by_away settings line =
    or_silent
    (option_map (λ (who : Name). IsAway who.key (with line 0 unless_empty))
    (actor settings line))

-- a command, and what a line of it says
pub record StateLine : Type 0 where
  pub command : Text
  pub tells : List Token → Parts → Told

-- a row of the state lines
abbrev pub state_line : Text → (List Token → Parts → Told) → StateLine
state_line command tells = record { command = command; tells = tells }

-- the seventeen state lines
unfoldable pub state_lines : List StateLine
state_lines =
    state_line (codes "001") told_by_welcome
    ∷ state_line (codes "005") told_by_isupport
    ∷ state_line (codes "376") told_by_end_of_motd
    ∷ state_line (codes "422") told_by_end_of_motd
    ∷ state_line (codes "JOIN") told_by_join
    ∷ state_line (codes "PART") told_by_part
    ∷ state_line (codes "KICK") told_by_kick
    ∷ state_line (codes "QUIT") told_by_quit
    ∷ state_line (codes "NICK") told_by_nick
    ∷ state_line (codes "MODE") told_by_mode
    ∷ state_line (codes "324") told_by_mode_reply
    ∷ state_line (codes "TOPIC") told_by_topic
    ∷ state_line (codes "332") told_by_topic_reply
    ∷ state_line (codes "331") told_by_no_topic
    ∷ state_line (codes "353") told_by_names
    ∷ state_line (codes "ACCOUNT") told_by_account
    ∷ state_line (codes "AWAY") told_by_away
    ∷ []

-- what the first of these with the line's command says
abbrev pub told_by : List StateLine → List Token → Parts → Told
told_by [] settings line = Silent
told_by (s ∷ lines) settings line =
    if has_command line s.command then s.tells settings line else told_by lines settings line

-- whether it is one of these
abbrev pub is_of : List StateLine → Parts → Bool
is_of lines line = list_any (λ s. has_command line s.command) lines

-- whether a line can say something: whether it is a state line
abbrev pub is_state_line : Parts → Bool
is_state_line = is_of state_lines

-- whether an item can say something: a state line, and a loss
abbrev pub is_state_item : Arrival → Bool
is_state_item (Received line) = is_state_line line
is_state_item Lost = true

-- whether a view may need memory to take the item; to take a loss it needs none
abbrev pub may_need_memory : Arrival → Bool
may_need_memory (Received line) = is_state_line line
may_need_memory Lost = false

-- what an item says
unfoldable pub told : List Token → Arrival → Told
told settings (Received line) = told_by state_lines settings line
told settings Lost = Disconnected
