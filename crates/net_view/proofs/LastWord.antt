-- What is found by looking back is what the last item that speaks says.
use Rattle.net_view.{proofs.Words.{◌++◌, ◌∷◌, ◌≡◌, ◌⊎◌, Bool}, specs.Found.{IsKnown, IsSaidLastOf}}
use Rattle.net_view.proofs.Words.{IsSaidLast, List, None, Option, Reading, Says, Some, Text, Told}
use Rattle.net_view.proofs.Words.{[], append_assoc, arith, in_sight, is_on, known, last, last_of}
use Rattle.net_view.proofs.Words.{name_before, name_traced, ours, refl, same_Some, true}

cases : {X : Type 0} (xs : List X) → (xs ≡ []) ⊎ ((x : X) × (rest : List X) × (xs ≡ x ∷ rest))
cases [] = grind arith
cases (x ∷ xs) = grind arith

traced_on : (front : List Reading) (x : Reading) (n k : Text) → name_traced front n ≡ Some k
    → name_traced (front ++ x ∷ []) n ≡ name_before (ours x) x.told k
traced_on [] x n k h = grind arith
traced_on (y ∷ front) x n k h = grind (arith, traced_on front)

-- ---- of a matter

module _ {A : Type 0} (says : (Text → Bool) → Told → Option A) where
  -- an answer, from where it is
  said_at : (items newer older : List Reading) (at : Reading) (answer : A)
      → items ≡ newer ++ at ∷ older → says (ours at) at.told ≡ Some answer
      → ((front : List Reading) (x : Reading) (rest : List Reading) → newer ≡ front ++ x ∷ rest
      → says (ours x) x.told ≡ None) → IsSaidLast says items answer
  said_at items newer older at answer is e silent =
      record { newer = newer; at = at; older = older; items_are = is; said = e; silent = silent }

  pub last_found : (items : List Reading) (answer : A) → last says items ≡ Some answer
      → IsSaidLast says items answer
  last_found [] answer h = cc
  last_found (x ∷ older) answer h =
      let here = λ (e : says (ours x) x.told ≡ Some answer). said_at (x ∷ older) [] older x answer
      refl e (λ front y rest s. grind (arith, cases front)) in
      let before = λ (e : says (ours x) x.told ≡ None) (s : last says older ≡ Some answer).
      let r = last_found older answer s in said_at (x ∷ older) (x ∷ r.newer) r.older r.at answer
      (cc) r.said (λ front y rest t. grind (arith, cases front, r.silent)) in
      grind (arith, here, before)

  pub found_last : (items : List Reading) (answer : A) → IsSaidLast says items answer
      → last says items ≡ Some answer
  found_last items answer r = grind (arith, from [] r.newer) where
    from : (front newer : List Reading) → r.newer ≡ front ++ newer
        → last says (newer ++ r.at ∷ r.older) ≡ Some answer
    from front [] s = cc
    from front (x ∷ newer) s =
        grind (arith, r.silent front, from (front ++ x ∷ []) newer, append_assoc {A = Reading})

-- ---- of a person

module _ {A : Type 0} (says : (Text → Bool) → Told → Text → Option A) where
  module _ (x : Reading) (older : List Reading) (n : Text) (answer : A) where
    said_of_here : says (ours x) x.told n ≡ Some answer → IsSaidLastOf says (x ∷ older) n answer
    said_of_here e = record {
      newer = [];
      at = x;
      older = older;
      name = n;
      items_are = refl;
      traced = refl;
      said = e;
      silent = λ front y rest m s t. grind (arith, cases front);
    }

    said_of_before : (k : Text) → IsSaidLastOf says older k answer → says (ours x) x.told n ≡ None
        → name_before (ours x) x.told n ≡ Some k → IsSaidLastOf says (x ∷ older) n answer
    said_of_before k r e b = record {
      newer = x ∷ r.newer;
      at = r.at;
      older = r.older;
      name = r.name;
      items_are = cc;
      traced = grind (arith, r.traced);
      said = r.said;
      silent = λ front y rest m s t. grind (arith, cases front, r.silent);
    }

  pub last_of_found : (items : List Reading) (n : Text) (answer : A)
      → last_of says items n ≡ Some answer → IsSaidLastOf says items n answer
  last_of_found [] n answer h = cc
  last_of_found (x ∷ older) n answer h =
      let before = λ (k : Text) (s : last_of says older k ≡ Some answer).
      said_of_before x older n answer k (last_of_found older k answer s) in
      grind (arith, said_of_here)

  pub found_last_of : (items : List Reading) (n : Text) (answer : A)
      → IsSaidLastOf says items n answer → last_of says items n ≡ Some answer
  found_last_of items n answer r = grind (arith, from [] r.newer n refl refl r.traced) where
    from : (front newer : List Reading) (k : Text) → r.newer ≡ front ++ newer
        → name_traced front n ≡ Some k → name_traced newer k ≡ Some r.name
        → last_of says (newer ++ r.at ∷ r.older) k ≡ Some answer
    from front [] k s t w = cc
    from front (x ∷ newer) k s t w =
        grind (arith, r.silent, traced_on front x n, from (front ++ x ∷ []) newer, append_assoc)

-- ---- what is known of a person

module _ (says : Says) where
  module _ (x : Reading) (older : List Reading) (n answer : Text)
      (sight : in_sight (x ∷ older) n ≡ true) where
    known_here : says (ours x) (is_on (x ∷ older)) x.told n ≡ Some (Some answer)
        → IsKnown says (x ∷ older) n answer
    known_here e = record {
      newer = [];
      at = x;
      older = older;
      name = n;
      items_are = refl;
      traced = refl;
      said = e;
      silent = λ front y rest m s t. grind (arith, cases front);
      seen = λ front rest m s t. grind (arith, cases front, same_Some);
    }

    known_before : (k : Text) → IsKnown says older k answer
        → says (ours x) (is_on (x ∷ older)) x.told n ≡ None
        → name_before (ours x) x.told n ≡ Some k → IsKnown says (x ∷ older) n answer
    known_before k r e b = record {
      newer = x ∷ r.newer;
      at = r.at;
      older = r.older;
      name = r.name;
      items_are = cc;
      traced = grind (arith, r.traced);
      said = r.said;
      silent = λ front y rest m s t. grind (arith, cases front, r.silent);
      seen = λ front rest m s t. grind (arith, cases front, r.seen);
    }

  pub known_found : (items : List Reading) (n answer : Text) → known says items n ≡ Some answer
      → IsKnown says items n answer
  known_found [] n answer h = cc
  known_found (x ∷ older) n answer h =
      let seen : in_sight (x ∷ older) n ≡ true = grind arith in
      let before = λ (k : Text) (s : known says older k ≡ Some answer).
      known_before x older n answer seen k (known_found older k answer s) in
      grind (arith, known_here x older n answer seen)

  pub found_known : (items : List Reading) (n answer : Text) → IsKnown says items n answer
      → known says items n ≡ Some answer
  found_known items n answer r = grind (arith, from [] r.newer n refl refl r.traced) where
    from : (front newer : List Reading) (k : Text) → r.newer ≡ front ++ newer
        → name_traced front n ≡ Some k → name_traced newer k ≡ Some r.name
        → known says (newer ++ r.at ∷ r.older) k ≡ Some answer
    from front [] k s t w = grind (arith, r.seen front [])
    from front (x ∷ newer) k s t w =
        let seen = r.seen front (x ∷ newer) k s t in
        grind (arith, seen, r.silent, traced_on front x, from (front ++ x ∷ []) newer, append_assoc)
