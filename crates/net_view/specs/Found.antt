-- Looking back, in a reader's words: where an answer is, and what is silent since.
use Rattle.std.specs.Prelude.{◌≡◌, true, Bool, List, ◌∷◌, ◌++◌}
use Rattle.std.proofs.Common.{Option, Some, None}
use Rattle.irc_support.specs.Text.{Text}
use Rattle.net_view.specs.Told.{Told}
use Rattle.net_view.specs.Transcript.{Reading, ours}
use Rattle.net_view.specs.LookBack.{name_traced}
use Rattle.net_view.specs.Presence.{is_on}
use Rattle.net_view.specs.Facts.{Says, in_sight}

-- The items are some newer ones, which say nothing of the matter, one that says this, and older
-- ones.
pub record IsSaidLast {A : Type 0} (says : (Text → Bool) → Told
    → Option A) (items : List Reading) (answer : A) : Type 0 where
  pub newer : List Reading
  pub at : Reading
  pub older : List Reading
  pub items_are : items ≡ newer ++ at ∷ older
  pub said : says (ours at) at.told ≡ Some answer
  pub silent : (front : List Reading) (x : Reading) (rest : List Reading)
      → newer ≡ front ++ x ∷ rest → says (ours x) x.told ≡ None

-- The same of a person, who is followed back under earlier names: m is the name at the answer.
pub record IsSaidLastOf {A : Type 0} (says : (Text → Bool) → Told → Text
    → Option A) (items : List Reading) (n : Text) (answer : A) : Type 0 where
  pub newer : List Reading
  pub at : Reading
  pub older : List Reading
  pub name : Text
  pub items_are : items ≡ newer ++ at ∷ older
  pub traced : name_traced newer n ≡ Some name
  pub said : says (ours at) at.told name ≡ Some answer
  pub silent : (front : List Reading) (x : Reading) (rest : List Reading) (m : Text)
      → newer ≡ front ++ x ∷ rest → name_traced front n ≡ Some m → says (ours x) x.told m ≡ None

-- The same of what is known of a person, who was in sight at every boundary from the answer on.
pub record IsKnown (says : Says) (items : List Reading) (n : Text) (answer : Text) : Type 0 where
  pub newer : List Reading
  pub at : Reading
  pub older : List Reading
  pub name : Text
  pub items_are : items ≡ newer ++ at ∷ older
  pub traced : name_traced newer n ≡ Some name
  pub said : says (ours at) (is_on (at ∷ older)) at.told name ≡ Some (Some answer)
  pub silent : (front : List Reading) (x : Reading) (rest : List Reading) (m : Text)
      → newer ≡ front ++ x ∷ rest → name_traced front n ≡ Some m
      → says (ours x) (is_on (x ∷ rest ++ at ∷ older)) x.told m ≡ None
  pub seen : (front rest : List Reading) (m : Text) → newer ≡ front ++ rest
      → name_traced front n ≡ Some m → in_sight (rest ++ at ∷ older) m ≡ true
