-- What `bnc view` prints of a network view, and of how many lines were skipped. The format is our
-- own choice.
use Rattle.std.specs.Prelude.{ℕ, List, [], ◌∷◌, ◌++◌, ◌==◌, codes, map, if◌then◌else◌}
use Rattle.std.specs.List.{flat_map}
use Rattle.std.specs.FinMap.{entries}
use Rattle.std.specs.Fmt.{decimal}
use Rattle.std.proofs.Common.{Option, Some, None}
use Rattle.irc_line.specs.Lines.{with_lf}
use Rattle.irc_support.specs.Written.{symbols_of}
use Rattle.net_view.specs.Text.{Text}
use Rattle.net_view.specs.Tokens.{Token}
use Rattle.net_view.specs.View.{Channel, View}
use Rattle.net_view.specs.Readers.{MemberParts, member_parts}

-- a text after its label, if there is one
abbrev pub labelled : Text → Option Text → Text
labelled label None = []
labelled label (Some text) = label ++ text

-- a member of a channel: the symbols of all ranks that are held, the highest first, and the nick;
-- then the account and the away text, if they are known
abbrev pub member_line : List Token → MemberParts → Text
member_line settings member =
    codes "member " ++ symbols_of settings member.ranks ++ member.nick
    ++ labelled (codes " account ") member.account
    ++ labelled (codes " away ") member.away

-- the members of a channel, in the order of their keys
abbrev pub member_lines : View → Channel → List Text
member_lines v channel =
    map (λ entry. member_line v.settings (member_parts v entry)) (entries channel.members)

-- the letters of modes
abbrev pub letters_of : List (ℕ × Option Text) → Text
letters_of modes = map (λ mode. mode.0) modes

-- the parameters of modes, each after a space
abbrev pub params_of : List (ℕ × Option Text) → Text
params_of modes = flat_map (λ mode. labelled (codes " ") mode.1) modes

-- the modes of a channel, if there are any: the letters, and after them the parameters in the
-- same order
abbrev pub mode_lines : List (ℕ × Option Text) → List Text
mode_lines [] = []
mode_lines modes = (codes "modes +" ++ letters_of modes ++ params_of modes) ∷ []

-- the topic of a channel, if there is one
abbrev pub topic_lines : Option Text → List Text
topic_lines None = []
topic_lines (Some topic) = (codes "topic " ++ topic) ∷ []

-- a channel that we are on: its name, its modes in the order of their letters' bytes, its topic,
-- its members
abbrev pub channel_lines : View → Channel → List Text
channel_lines v channel =
    (codes "channel " ++ channel.name)
    ∷ (mode_lines (entries channel.modes) ++ topic_lines channel.topic ++ member_lines v channel)

-- the channels that we are on, in the order of their keys
abbrev pub channels_lines : View → List Text
channels_lines v = flat_map (λ entry. channel_lines v entry.1) (entries v.channels)

-- our nick and our channels, if a network took us in
abbrev pub view_lines : View → List Text
view_lines v = elim v.own [
  | None ↦ codes "no welcome" ∷ []
  | Some nick ↦ (codes "nick " ++ nick) ∷ channels_lines v
]

-- how many lines were skipped, if there were any
abbrev pub skipped_lines : ℕ → List Text
skipped_lines skipped = if skipped == 0 then [] else (codes "skipped " ++ decimal skipped) ∷ []

-- lines, each with LF after it
abbrev pub text_of : List Text → Text
text_of lines = flat_map with_lf lines

-- the report
abbrev pub report_of : View → ℕ → Text
report_of v skipped = text_of (view_lines v ++ skipped_lines skipped)
