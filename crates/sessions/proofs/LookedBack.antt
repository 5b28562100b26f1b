-- What lines give, after one more.
use Rattle.{irc_line.specs.Line.Parts, net_view.specs.LookBack.last_in, sessions.specs.Given.given}
use Rattle.{sessions.specs.Given.{nick_in, stages}, std.proofs.Common.{Option, arith, refl}}
use Rattle.std.{proofs.lemmas.List.{Folds.list_any-append, map-append}, specs.List.list_any}
use Rattle.std.specs.{Option.{option_map, option_or}, Prelude.{Bool, List, [], codes, is_some}}
use Rattle.std.specs.Prelude.{unwrap_or, ◌++◌, ◌||◌, ◌∷◌, ◌≡◌}

-- what the last of the lines says, after others
last_append : {A B : Type 0} (says : B → Option A) (xs ys : List B)
    → last_in says (xs ++ ys) ≡ option_or (last_in says ys) (last_in says xs)
last_append says [] ys = grind arith
last_append says (x ∷ xs) ys = grind (arith, last_append says xs ys)

pub last_unwrapped : {A B : Type 0} (says : B → Option A) (xs ys : List B) (d : A)
    → unwrap_or (last_in says (xs ++ ys)) d
    ≡ unwrap_or (last_in says ys) (unwrap_or (last_in says xs) d)
last_unwrapped says xs ys d = grind (arith, last_append says xs ys)

-- after one more
pub last_more : {A B : Type 0} (says : B → Option A) (xs : List B) (x : B)
    → last_in says (xs ++ x ∷ []) ≡ option_or (says x) (last_in says xs)
last_more says xs x = last_append says xs (x ∷ [])

some_more : {A B : Type 0} (says : B → Option A) (xs : List B) (x : B)
    → is_some (last_in says (xs ++ x ∷ [])) ≡ (is_some (last_in says xs) || is_some (says x))
some_more says xs x = grind (arith, last_more says xs x)

pub some_mapped : {A B : Type 0} (f : A → B) (o : Option A) → is_some (option_map f o) ≡ is_some o
some_mapped f o = grind arith

-- whether a nick came, after one more line
pub nick_more : (before : List Parts) (line : Parts) → is_some (nick_in (before ++ line ∷ []))
    ≡ (is_some (nick_in before) || is_some (given (codes "NICK") line))
nick_more before line = some_more (given (codes "NICK")) before line

-- the stages, after one more line
stages_more : (xs : List Parts) (x : Parts)
    → stages (xs ++ x ∷ []) ≡ stages xs ++ (xs ++ x ∷ []) ∷ []
stages_more [] x = refl
stages_more (y ∷ ys) x = rw (stages_more ys x, map-append)

-- whether one passes a test, after one more
pub any_more : {A : Type 0} (p : A → Bool) (xs : List A) (x : A)
    → list_any p (xs ++ x ∷ []) ≡ (list_any p xs || p x)
any_more p xs x = grind (arith, list_any-append)

-- whether a stage passes a test, after one more line
pub any_stage_more : (p : List Parts → Bool) (xs : List Parts) (x : Parts)
    → list_any p (stages (xs ++ x ∷ [])) ≡ (list_any p (stages xs) || p (xs ++ x ∷ []))
any_stage_more p xs x = rw (stages_more xs x) (any_more p (stages xs) (xs ++ x ∷ []))
