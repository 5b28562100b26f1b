-- Members, as the laws of one step ask for them: their ranks are sets, and whoever is known is a
-- member.
use Rattle.std.specs.Prelude.{◌≡◌, ℕ, List}
use Rattle.std.specs.Option.{ForSome, unwrap_or}
use Rattle.std.specs.FinMap as fin
use Rattle.irc_support.specs.Text.{Text}
use Rattle.irc_support.specs.Ranks.{ranks_that, has_rank}
use Rattle.net_view.specs.LookBack.{last_in}
use Rattle.net_view.specs.Members.{rank_in_change}
use Rattle.net_view.specs.Step.{is_seen}
use Rattle.net_view.specs.Told.{LetterChange}
use Rattle.net_view.specs.View.{Channel, View}

-- each member's ranks are a set
abbrev pub AreSets : Channel → Type 0
AreSets ch = (n : Text)
    → ForSome (fin.get ch.members n) (λ ranks. ranks_that (has_rank ranks) ≡ ranks)

-- on each channel
abbrev pub HasSets : View → Type 0
HasSets v = (c : Text) → ForSome (fin.get v.channels c) AreSets

-- who is known is a member of some channel
abbrev pub IsKnowing : View → Type 0
IsKnowing v = (n : Text) → fin.contains_key v.people n ≡ is_seen v.channels n

-- the ranks of a member after a MODE of these letters (RFC 2812, section 3.2.3)
abbrev pub ranks_changed : List LetterChange → Text → List ℕ → List ℕ
ranks_changed letters n ranks =
    ranks_that (λ rank. unwrap_or (last_in (rank_in_change n rank) letters) (has_rank ranks rank))
