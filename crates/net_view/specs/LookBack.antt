-- The two ways to look back: for a matter, and for a person.
use Rattle.std.specs.Prelude.{Bool, not, ◌||◌, List, [], ◌∷◌, if◌then◌else◌}
use Rattle.std.specs.Option.{option_or, option_and_then}
use Rattle.std.proofs.Common.{Option, Some, None}
use Rattle.irc_support.specs.Text.{Text}
use Rattle.net_view.specs.Names.{same}
use Rattle.net_view.specs.Told.{Told, Welcomed, Quits, Renamed, Disconnected}
use Rattle.net_view.specs.Transcript.{Reading, ours}

-- what the last item that speaks of a matter says about it. What an item says may depend on who we
-- are.
abbrev pub last : {A : Type 0} → ((Text → Bool) → Told → Option A) → List Reading → Option A
last says [] = None
last says (x ∷ older) = option_or (says (ours x) x.told) (last says older)

-- what the last of the parts of one item says
abbrev pub last_in : {A B : Type 0} → (B → Option A) → List B → Option A
last_in says [] = None
last_in says (b ∷ bs) = option_or (last_in says bs) (says b)

-- a NICK counts, unless another takes our own nick (our own choice; RFC 2812, section 3.1.2, has
-- the server refuse it)
abbrev pub counts : (Text → Bool) → Text → Text → Bool
counts us old new = us old || not (us new)

-- the key that a person had before an item, who has this key after it; none if nobody of before
-- is that person
abbrev pub name_before : (Text → Bool) → Told → Text → Option Text
name_before us (Renamed old new) n =
    if counts us old new.key then
    (if same n new.key then Some old else if same n old then None else Some n) else Some n
name_before us (Quits gone) n = if same n gone then None else Some n
name_before us (Welcomed nick) n = None
name_before us Disconnected n = None
name_before us _ n = Some n

-- what the last item that speaks of a person says, under the name that the person had before each
-- item
abbrev pub last_of : {A : Type 0} → ((Text → Bool) → Told → Text → Option A) → List Reading → Text
    → Option A
last_of says [] n = None
last_of says (x ∷ older) n =
    option_or (says (ours x) x.told n)
    (option_and_then (last_of says older) (name_before (ours x) x.told n))

-- the key that the person of this key had before all these items
abbrev pub name_traced : List Reading → Text → Option Text
name_traced [] n = Some n
name_traced (x ∷ older) n = option_and_then (name_traced older) (name_before (ours x) x.told n)
