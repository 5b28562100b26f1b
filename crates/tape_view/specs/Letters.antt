-- The letters of a channel's modes: which are on, and the one at a place.
use Rattle.std.specs.Prelude.{ℕ, Bool, List, [], map, is_some, slice_get}
use Rattle.std.specs.Option.{option_map}
use Rattle.std.specs.FinMap as fin
use Rattle.std.proofs.Common.{Option}
use Rattle.irc_line.specs.Line.{Parts}
use Rattle.irc_support.specs.Line.{changes_in}
use Rattle.net_view.specs.declared.state_line.Telling.{Telling}
use Rattle.net_view.specs.declared.state_line.Telling.TheVariants.{Changed, Listed}
use Rattle.net_view.specs.Text.{Text}
use Rattle.net_view.specs.Tokens.{Token}
use Rattle.net_view.specs.Transcript.{Reading}
use Rattle.net_view.specs.Modes.{mode_of}
use Rattle.net_view.specs.View.{modes_of}

-- the letters that a line lists, those among them whose changes are not kept too
abbrev pub letters_listed : List Token → Parts → List ℕ
letters_listed settings line = map (λ change. change.letter) (changes_in settings line)

-- the letters that a MODE or a 324 line lists
abbrev pub letters_told : {A : Type 0} → List Token → Telling A → List ℕ
letters_told settings (Changed channel line) = letters_listed settings line.now
letters_told settings (Listed channel line) = letters_listed settings line.now
letters_told settings _ = []

-- whether the mode of this letter is on
abbrev pub is_set : List Reading → Text → ℕ → Bool
is_set rs c letter = is_some (mode_of rs c letter)

-- the letter at a place, of those that are on
abbrev pub letter_shown : List Reading → Text → ℕ → Option ℕ
letter_shown rs c j = option_map (λ e. e.0) (slice_get (fin.entries (modes_of rs c)) j)
