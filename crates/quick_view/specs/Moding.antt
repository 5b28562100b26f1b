-- The changes of a MODE or a 324 line, one after the other.
use Rattle.std.specs.Prelude.{◌≡◌, ℕ, not, ◌==◌, ◌||◌, ◌&&◌, List, if◌then◌else◌}
use Rattle.std.specs.List.{filter_map}
use Rattle.std.specs.Option.{option_map, unwrap_or}
use Rattle.std.specs.FinMap as fin
use Rattle.net_view.specs.LookBack.{last_in}
use Rattle.net_view.specs.Modes.{setting_of}
use Rattle.net_view.specs.View.{Channel}
use Rattle.net_view.specs.MemberSets.{ranks_changed}
use Rattle.std.proofs.Common.{Option, Some, None}
use Rattle.irc_line.specs.Line.{Parts}
use Rattle.irc_support.specs.Text.{Text}
use Rattle.irc_support.specs.Tokens.{Token}
use Rattle.irc_support.specs.Ranks.{ranks_that, has_rank}
use Rattle.irc_support.specs.Line.{changes_in}
use Rattle.net_view.specs.Names.{same}
use Rattle.net_view.specs.Told.{LetterChange, ModeChange}
use Rattle.net_view.specs.StateLines.{letter_change, mode_change}

-- the modes that a line changes
abbrev pub modes_in : List Token → Parts → List ModeChange
modes_in settings line = filter_map (mode_change settings) (changes_in settings line)

-- the ranks that a line changes
abbrev pub letters_in : List Token → Parts → List LetterChange
letters_in settings line = filter_map (letter_change settings) (changes_in settings line)

-- a member's ranks after a change, if it is one of a rank
abbrev pub rank_after : Option LetterChange → Text → List ℕ → List ℕ
rank_after None n ranks = ranks
rank_after (Some l) n ranks =
    if same n l.person
    then (if l.plus then ranks_that (λ r. r == l.rank || has_rank ranks r)
    else ranks_that (λ r. not (r == l.rank) && has_rank ranks r))
    else ranks

-- a channel after the changes of a line
pub record IsModed (settings : List Token) (line : Parts) (old new : Channel) : Type 0 where
  pub name : new.name ≡ old.name
  pub topic : new.topic ≡ old.topic
  pub modes : (letter : ℕ) → fin.get new.modes letter ≡ unwrap_or (last_in (setting_of letter)
      (modes_in settings line)) (fin.get old.modes letter)
  pub members : (n : Text) → fin.get new.members n ≡ option_map (ranks_changed (letters_in settings
      line) n) (fin.get old.members n)
