-- What one line says of settings, modes and names.
use Rattle.std.specs.Prelude.{ℕ, if◌then◌else◌, List, [], drop, slice_get, unwrap_or, codes}
use Rattle.irc_line.specs.Line.{Parts, has_command}
use Rattle.irc_support.specs.Text.{Text}
use Rattle.irc_support.specs.Tokens.{Token, set_tokens}
use Rattle.irc_support.specs.ModeChanges.{ChangeParts, changes}
use Rattle.irc_support.specs.NamesReply.{Word, words, split_words}

-- the settings after a line: 005 RPL_ISUPPORT sets tokens (isupport draft, section 2), no other
-- line does
abbrev pub settings_after : List Token → Parts → List Token
settings_after settings line =
    if has_command line (codes "005") then set_tokens settings line.params else settings

-- the changes that a line lists: those of MODE after the target, and those of 324
-- RPL_CHANNELMODEIS after our nick and the channel
abbrev pub changes_in : List Token → Parts → List ChangeParts
changes_in settings line =
    if has_command line (codes "MODE") then changes settings (drop 1 line.params) else
    if has_command line (codes "324") then changes settings (drop 2 line.params) else
    []

-- the members that a line names: those of 353 RPL_NAMREPLY after our nick, a symbol and the
-- channel (that they are in this place is our own choice)
abbrev pub words_in : List Token → Parts → List Word
words_in settings line =
    if has_command line (codes "353") then
    words settings (unwrap_or (slice_get line.params 3) []) else
    []

-- the words of the same parameter, taken apart
abbrev pub split_words_in : List Token → Parts → List (List ℕ × Text)
split_words_in settings line =
    if has_command line (codes "353") then
    split_words settings (unwrap_or (slice_get line.params 3) []) else
    []
