-- The commands of the state lines, as the code names them (RFC 2812, sections 3.1, 3.2 and 5; IRCv3
-- account-notify and away-notify).
use Rattle.std.specs.Prelude.{Bool, List, [], ◌∷◌}
use Rattle.std.specs.List.{find, list_any}
use Rattle.std.specs.Str.{str_eq_ignore_ascii_case}
use Rattle.std.proofs.Common.{Option, codes}
use Rattle.irc_line.specs.Line.{Parts, has_command}
use Rattle.irc_support.specs.Text.{Text}
use Rattle.net_view.specs.declared.state_command.StateCommand.{StateCommand}
use Rattle.net_view.specs.declared.state_command.StateCommand.TheVariants.{Welcome, Isupport}
use Rattle.net_view.specs.declared.state_command.StateCommand.TheVariants.{EndOfMotd, NoMotd, Join}
use Rattle.net_view.specs.declared.state_command.StateCommand.TheVariants.{Part, Kick, Quit, Nick}
use Rattle.net_view.specs.declared.state_command.StateCommand.TheVariants.{Mode, ModeReply, Topic}
use Rattle.net_view.specs.declared.state_command.StateCommand.TheVariants.{TopicReply, NoTopic}
use Rattle.net_view.specs.declared.state_command.StateCommand.TheVariants.{Names, Account, Away}

-- how a command is written
abbrev pub command_text : StateCommand → Text
command_text Welcome = codes "001"
command_text Isupport = codes "005"
command_text EndOfMotd = codes "376"
command_text NoMotd = codes "422"
command_text Join = codes "JOIN"
command_text Part = codes "PART"
command_text Kick = codes "KICK"
command_text Quit = codes "QUIT"
command_text Nick = codes "NICK"
command_text Mode = codes "MODE"
command_text ModeReply = codes "324"
command_text Topic = codes "TOPIC"
command_text TopicReply = codes "332"
command_text NoTopic = codes "331"
command_text Names = codes "353"
command_text Account = codes "ACCOUNT"
command_text Away = codes "AWAY"

-- all of them
unfoldable pub state_commands : List StateCommand
state_commands =
    Welcome
    ∷ Isupport
    ∷ EndOfMotd
    ∷ NoMotd
    ∷ Join
    ∷ Part
    ∷ Kick
    ∷ Quit
    ∷ Nick
    ∷ Mode
    ∷ ModeReply
    ∷ Topic
    ∷ TopicReply
    ∷ NoTopic
    ∷ Names
    ∷ Account
    ∷ Away
    ∷ []

-- the command of a line, if it is one of these
abbrev pub state_command : Parts → Option StateCommand
state_command line = find (λ command. has_command line (command_text command)) state_commands

-- whether this is one of them, in letters of either case
abbrev pub is_state_command : Text → Bool
is_state_command name =
    list_any (λ command. str_eq_ignore_ascii_case name (command_text command)) state_commands

-- commands that are none of them: messages, those of the link, and replies that a client is sent
-- (RFC 2812, sections 3.3, 3.7 and 5.1; IRCv3 capability negotiation, batch and sasl)
abbrev pub other_commands : List Text
other_commands =
    codes "PRIVMSG"
    ∷ codes "NOTICE"
    ∷ codes "PING"
    ∷ codes "PONG"
    ∷ codes "ERROR"
    ∷ codes "CAP"
    ∷ codes "BATCH"
    ∷ codes "AUTHENTICATE"
    ∷ codes "002"
    ∷ codes "003"
    ∷ codes "004"
    ∷ codes "366"
    ∷ []
