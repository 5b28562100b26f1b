-- What holds of all lines that a view keeps.
use Rattle.std.specs.Prelude.{◌≡◌, ℕ, List}
use Rattle.irc_support.specs.Tokens.{Token}
use Rattle.net_view.specs.Transcript.{settings_of}
use Rattle.net_view.specs.Written.{AreWritten}
use Rattle.tape_view.specs.declared.kept.Kept.{Kept}
use Rattle.tape_view.specs.Kept.{tape_of, IsMarkedTape}
use Rattle.tape_view.specs.NameCount.{IsCounted}

-- each is marked by what was before it, these settings are in force after them, they bring up at
-- most this many names, and each can be written
pub record IsWhole {A : Type 0} (kept : List (Kept A)) (settings : List Token) (names : ℕ) : Type 0
  where
    pub marked : IsMarkedTape kept
    pub in_force : settings_of (tape_of kept) ≡ settings
    pub counted : IsCounted kept names
    pub written : AreWritten (tape_of kept)
