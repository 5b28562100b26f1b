-- What every network view is like.
use Rattle.std.specs.Prelude.{◌≡◌, ◌≢◌, ℕ, ◌<◌, false, IsTrue, IsSomeAnd, [], length, codes}
use Rattle.std.specs.Option.{ForSome}
use Rattle.std.specs.FinMap as map
use Rattle.std.proofs.Common.{Option, None, List}
use Rattle.irc_names.specs.Nick.{is_nameable}
use Rattle.irc_support.specs.Text.{Text, is_word}
use Rattle.irc_support.specs.Tokens.{Token}
use Rattle.irc_support.specs.Ranking.{ranking_of}
use Rattle.irc_support.specs.Ranks.{ranks_that, has_rank}
use Rattle.irc_support.specs.ChanModes.{kind_of}
use Rattle.irc_support.specs.Settings.{key_by, is_channel}
use Rattle.irc_support.specs.Written.{AreTokens, is_sign}
use Rattle.irc_support.specs.declared.kind.Kind.{Kind}
use Rattle.irc_support.specs.declared.kind.Kind.TheVariants.{Prefix, A, B, C, D, Unknown}
use Rattle.net_view.specs.View.{Channel, Person, View, empty_view}
use Rattle.net_view.specs.Step.{is_seen}
use Rattle.net_view.specs.Readers.{known_at}

-- how many ranks the settings have
abbrev pub rank_limit : List Token → ℕ
rank_limit settings = length (ranking_of settings).letters

-- the nick is nameable, and its key is this one
pub record IsSpelling (settings : List Token) (key : Text) (nick : Text) : Type 0 where
  pub nameable : IsTrue (is_nameable nick)
  pub keyed : key_by settings nick ≡ key

-- a topic or an away text that is there is not empty
abbrev pub IsFilled : Text → Type 0
IsFilled text = text ≢ []

-- an account that is known is a word, and not `*`
pub record IsAccount (name : Text) : Type 0 where
  pub word : IsTrue (is_word name)
  pub some : name ≢ codes "*"

-- a mode that is on is of kind B or C with a parameter, which is a word, or of kind D without one
abbrev pub IsKept : Kind → Option Text → Type 0
IsKept Prefix param = ⊥
IsKept A param = ⊥
IsKept B param = IsSomeAnd param (λ word. IsTrue (is_word word))
IsKept C param = IsSomeAnd param (λ word. IsTrue (is_word word))
IsKept D param = param ≡ None
IsKept Unknown param = ⊥

-- If we are on a channel we are ready and a member of it; its name is a channel's and folds to
-- its key; each member is spelled by a nameable nick that folds to the member's key, and holds
-- ranks that there are.
pub record IsSoundChannel (v : View) (c : Text) (ch : Channel) : Type 0 where
  pub ready : IsTrue v.ready
  pub name : IsTrue (is_channel v.settings ch.name)
  pub key : key_by v.settings ch.name ≡ c
  pub own : IsSomeAnd v.own (λ nick. IsTrue (map.contains_key ch.members (key_by v.settings nick)))
  pub topic : ForSome ch.topic IsFilled
  pub modes : (letter : ℕ) → ForSome (map.get ch.modes letter) (IsKept (kind_of v.settings letter))
  pub ranks : (n : Text)
      → ForSome (map.get ch.members n) (λ ranks. (rank : ℕ) → IsTrue (has_rank ranks rank)
      → rank < rank_limit v.settings)
  pub spelled : (n : Text) → IsTrue (map.contains_key ch.members n)
      → IsSomeAnd (known_at (λ p. p.spelled) v n) (IsSpelling v.settings n)

-- Who is known is spelled; account and away text are of their form.
pub record IsSoundPerson (v : View) (n : Text) (p : Person) : Type 0 where
  pub spelled : IsSomeAnd p.spelled (IsSpelling v.settings n)
  pub account : ForSome p.account IsAccount
  pub away : ForSome p.away IsFilled

-- What every network view is like.
pub record IsSound (v : View) : Type 0 where
  -- before a welcome the view is empty
  pub unwelcomed : v.own ≡ None → v ≡ empty_view
  -- our own nick is nameable
  pub own : ForSome v.own (λ nick. IsTrue (is_nameable nick))
  pub channels : (c : Text) → ForSome (map.get v.channels c) (IsSoundChannel v c)
  pub people : (n : Text) → ForSome (map.get v.people n) (IsSoundPerson v n)
  -- who is known is a member of some channel, and the other way round
  pub known : (n : Text) → map.contains_key v.people n ≡ is_seen v.channels n

-- What is written of a view is read back as it is: the tokens in force are of their form and occur
-- once each, a mode's letter is no sign, and the ranks of a member are a set, the highest first.
pub record IsWellFormed (v : View) : Type 0 where
  pub tokens : AreTokens v.settings
  pub letters : (c : Text)
      → ForSome (map.get v.channels c) (λ (ch : Channel). (letter : ℕ)
      → ForSome (map.get ch.modes letter) (λ _. is_sign letter ≡ false))
  pub ranks : (c : Text)
      → ForSome (map.get v.channels c) (λ (ch : Channel). (n : Text)
      → ForSome (map.get ch.members n) (λ ranks. ranks_that (has_rank ranks) ≡ ranks))
