-- What the reference in a change shows.
use Rattle.std.specs.Prelude.{ℕ, List, option_map}
use Rattle.std.specs.Borrow.{Bor}
use Rattle.irc_support.specs.ModeChanges.{ChangeParts}
use Rattle.irc_support.specs.declared.mode_changes.Change.{Change}

-- the parts of a change, whose parameter is a reference
abbrev pub shown_change : Change → ChangeParts
shown_change c =
    record {
      plus = c.plus;
      letter = c.letter;
      param = option_map (λ (param : Bor (List ℕ)). param.now) c.param;
    }
