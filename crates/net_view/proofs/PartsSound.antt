-- What the parts of a line give is well formed.
use Rattle.net_view.proofs.Words
use Words.{◌<◌, ◌∷◌, ◌≡◌, Bool, Changed, ForSome, HasAccount, IfSome, IsAccount, IsAway, IsFilled}
use Words.{IsKept, Joined, LetterChange, List, Listed, Listing, ModeChange, Name, None, Option}
use Words.{Parts, Present, Renamed, Some, Text, Titled, Token, Told, Welcomed, [], arith, cond}
use Words.{filter_map, has_rank, is_channel, is_nameable, key_by, kind_of, listing, option_and_then}
use Words.{position-Some, rank_limit, true, unwrap_or, word_of, ℕ, ⊤}
use Rattle.irc_support.proofs.{RankPlaces.ranking_of-is, Spelling.paired}
use Rattle.{irc_support.specs.NamesReply.shows_rank, net_view.proofs.RankSets.has_of_set}
use Rattle.{net_view.specs.StateLines.actor_nick, std.proofs.lemmas.Bool.eqb-true}
use Rattle.std.specs.List.{AllByRecursion}

pub record IsSoundName (settings : List Token) (x : Name) : Type 0 where
  pub nameable : is_nameable x.spelled ≡ true
  pub keyed : x.key ≡ key_by settings x.spelled

pub record IsSoundListing (settings : List Token) (l : Listing) : Type 0 where
  pub person : IsSoundName settings l.person
  pub ranks : (rank : ℕ) → has_rank l.ranks rank ≡ true → rank < rank_limit settings

-- each of a list
abbrev pub Each : {X : Type 0} → (X → Type 0) → List X → Type 0
Each P xs = AllByRecursion P xs

abbrev pub IsSoundMode : List Token → ModeChange → Type 0
IsSoundMode settings m = IfSome m.setting (IsKept (kind_of settings m.letter))

abbrev pub IsSoundTold : List Token → Told → Type 0
IsSoundTold settings (Welcomed nick) = is_nameable nick ≡ true
IsSoundTold settings (Joined channel valid who account) =
    (channel.key ≡ key_by settings channel.spelled)
    × (valid ≡ is_channel settings channel.spelled)
    × IsSoundName settings who
    × IfSome account (λ a. IfSome a IsAccount)
IsSoundTold settings (Renamed old new) = IsSoundName settings new
IsSoundTold settings (Changed c letters modes) =
    Each (λ (l : LetterChange). l.rank < rank_limit settings) letters
    × Each (IsSoundMode settings) modes
IsSoundTold settings (Listed c modes) = Each (IsSoundMode settings) modes
IsSoundTold settings (Titled c text) = IfSome text IsFilled
IsSoundTold settings (Present c listings) = Each (IsSoundListing settings) listings
IsSoundTold settings (HasAccount n account) = IfSome account IsAccount
IsSoundTold settings (IsAway n text) = IfSome text IsFilled
IsSoundTold settings _ = ⊤

-- ---- parts

pub each_found : {X Y : Type 0} (P : Y → Type 0) (f : X → Option Y) → ((x : X) → IfSome (f x) P)
    → (xs : List X) → Each P (filter_map f xs)
each_found P f h [] = tt
each_found P f h (x ∷ xs) = grind (arith, each_found P f h xs)

pub then_sound : {X Y : Type 0} (P : Y → Type 0) (o : Option X) (f : X → Option Y)
    → ((x : X) → IfSome (f x) P) → IfSome (option_and_then f o) P
then_sound P o f h = grind arith

-- what is said, or else what was
pub said_sound : {X : Type 0} (P : X → Type 0) (said : Option (Option X)) (before : Option X)
    → IfSome said (λ x. IfSome x P) → IfSome before P → ForSome (unwrap_or said before) P
said_sound P said before h b x e = grind arith

pub when_sound : {X : Type 0} (P : X → Type 0) (b : Bool) (x : X) → (b ≡ true → P x)
    → IfSome (cond b (Some x) None) P
when_sound P b x h = grind arith

pub actor_nick_nameable : (line : Parts)
    → IfSome (actor_nick line) (λ nick. is_nameable nick ≡ true)
actor_nick_nameable line = grind arith

-- whose symbol is shown is a rank that there is
shown_rank : (settings : List Token) (symbols : Text) (rank : ℕ)
    → shows_rank settings symbols rank ≡ true → rank < rank_limit settings
shown_rank settings [] rank h = cc
shown_rank settings (b ∷ symbols) rank h =
    grind (arith, eqb-true, paired, ranking_of-is, position-Some, shown_rank settings symbols rank)

pub listing_sound : (settings : List Token) (text : Text)
    → IfSome (listing settings (word_of settings text)) (IsSoundListing settings)
listing_sound settings text = grind (arith, shown_rank, has_of_set)
