-- What the references in words of a name list show.
use Rattle.std.specs.Prelude.{ℕ, List}
use Rattle.std.specs.Borrow.{Bor}
use Rattle.irc_support.specs.NamesReply.{Word}
use Rattle.irc_support.specs.Text.{Text}

-- a member, from its ranks and a reference to its nick
abbrev pub shown_member : List ℕ × Bor (List ℕ) → Word
shown_member m = record { ranks = m.0; nick = m.1.now }

-- a word taken apart, from its ranks and a reference to what follows its symbols
abbrev pub shown_word : List ℕ × Bor (List ℕ) → List ℕ × Text
shown_word w = (w.0, w.1.now)
