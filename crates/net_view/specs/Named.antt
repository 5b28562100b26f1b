-- What the items name: the keys at which the tables of a view ask.
use Rattle.std.specs.Prelude.{ℕ, List, [], ◌∷◌, ◌++◌, map}
use Rattle.irc_support.specs.Text.{Text}
use Rattle.net_view.specs.Told.{Told, Joined, Renamed, Changed, Listed, Present}
use Rattle.net_view.specs.Transcript.{Reading}

-- what all items name
abbrev pub named : {K : Type 0} → (Told → List K) → List Reading → List K
named names [] = []
named names (x ∷ older) = names x.told ++ named names older

-- the channel that an item joins somebody to
abbrev pub channels_in : Told → List Text
channels_in (Joined channel valid who account) = channel.key ∷ []
channels_in _ = []

-- the letters whose modes an item decides
abbrev pub letters_in : Told → List ℕ
letters_in (Changed channel letters modes) = map (λ m. m.letter) modes
letters_in (Listed channel modes) = map (λ m. m.letter) modes
letters_in _ = []

-- the persons that an item makes members, or names anew
abbrev pub people_in : Told → List Text
people_in (Joined channel valid who account) = who.key ∷ []
people_in (Renamed old new) = new.key ∷ []
people_in (Present channel listings) = map (λ l. l.person.key) listings
people_in _ = []
