-- What was made for sets of capabilities, and what sessions are to be sent of it.
use Rattle.hub_core.proofs.Words.{◌++◌, ◌+◌, ◌<◌, ◌∷◌, ◌≡◌, AllByRecursion, Bool, Caps, List, None}
use Rattle.hub_core.proofs.Words.{Option, Parts, SessionState, Some, [], arith, get_or, is_some}
use Rattle.hub_core.proofs.Words.{length, length-map, list_any, map, nat_tests, position, refl, set}
use Rattle.hub_core.{proofs.Words.{take, true, ℕ}, specs.Given.{all_sets_but, more_sets, same_caps}}
use Rattle.{hub_core.specs.Given.sets_but, std.proofs.Common.nat_lt}
use Rattle.std.proofs.{SliceLists.all_by_recursion_push, lemmas.List.Quantifiers.position-Some}
use Rattle.std.proofs.lemmas.List.{get_or-map, map-set, set-get_or, take_more, take_more_set}
use Rattle.std.{proofs.lemmas.List.Elements.All-from_recursion, specs.List.position_or_len}

-- ---- sets are compared one by one

pub same_is : (a b : Caps) → same_caps a b ≡ true → a ≡ b
same_is a b h = λ i. record {
  multi_prefix = (let e : a.multi_prefix ≡ b.multi_prefix = grind (arith, h) in e) i;
  extended_join = (let e : a.extended_join ≡ b.extended_join = grind (arith, h) in e) i;
  account_notify = (let e : a.account_notify ≡ b.account_notify = grind (arith, h) in e) i;
  away_notify = (let e : a.away_notify ≡ b.away_notify = grind (arith, h) in e) i;
  server_time = (let e : a.server_time ≡ b.server_time = grind (arith, h) in e) i;
  batch = (let e : a.batch ≡ b.batch = grind (arith, h) in e) i;
}

-- ---- a set that was found

any_len : {X : Type 0} (p : X → Bool) (xs : List X)
    → list_any p xs ≡ nat_lt (position_or_len p xs) (length xs)
any_len p [] = refl
any_len p (x ∷ xs) = grind (arith, nat_tests, any_len p xs)

pub is_there : {X : Type 0} (p : X → Bool) (xs : List X) → list_any p xs ≡ is_some (position p xs)
is_there p xs = grind (arith, any_len p xs)

module _ {M : Type 0} (caps : M → Caps) where
  any_map : (set : Caps) (ms : List M) → list_any (λ other. same_caps other set)
      (map caps ms) ≡ list_any (λ m. same_caps (caps m) set) ms
  any_map set [] = refl
  any_map set (m ∷ ms) = grind (arith, any_map set ms)

  -- it is there already
  pub no_more : (set : Caps) (ms : List M) (i : ℕ) → position (λ m. same_caps (caps m) set) ms
      ≡ Some i → map caps ms ≡ more_sets (map caps ms) set
  no_more set ms i e = grind (arith, any_map set ms, is_there)

  -- it is new
  pub one_more : (set : Caps) (ms : List M) → position (λ m. same_caps (caps m) set) ms ≡ None
      → more_sets (map caps ms) set ≡ map caps ms ++ set ∷ []
  one_more set ms e = grind (arith, any_map set ms, is_there)

  -- what was made for it
  pub found : (P : M → Caps → Type 0) (set : Caps) (ms : List M) (i : ℕ) (m : M)
      → AllByRecursion (λ x. P x (caps x)) ms
      → position (λ x. same_caps (caps x) set) ms ≡ Some i → m ≡ get_or ms i m → P m set
  found P set ms i m all e is = grind (arith, position-Some, same_is, All-from_recursion)

-- ---- sessions, prepared one after the other

sets_more : (except : Option ℕ) (sets : List Caps) (ss : List SessionState) (s : SessionState)
    → all_sets_but except sets (ss ++ s ∷ []) ≡ sets_but except (all_sets_but except sets ss) s
sets_more except sets [] s = refl
sets_more except sets (r ∷ ss) s = grind (arith, sets_more except (sets_but except sets r) ss s)

module _ {S : Type 0} (state : S → SessionState) (coming : S → Option (List Parts))
    (give : SessionState → Option (List Parts)) (except : Option ℕ) where
  -- the first i are prepared
  pub record IsPrepared (olds now : List S) (sets : List Caps) (i : ℕ) : Type 0 where
    pub states : map state now ≡ map state olds
    pub coming_are : AllByRecursion (λ s. coming s ≡ give (state s)) (take i now)
    pub sets_are : sets ≡ all_sets_but except [] (take i (map state now))

  pub one_prepared : (olds now : List S) (sets more : List Caps) (i : ℕ) (s t : S) → i < length now
      → s ≡ get_or now i s → state t ≡ state s → coming t ≡ give (state s)
      → more ≡ sets_but except sets (state s) → IsPrepared olds now sets i
      → IsPrepared olds (set now i t) more (i + 1)
  one_prepared olds now sets more i s t less is same here new w =
      let here' : get_or (map state now) i (state s) ≡ state s = grind (arith, get_or-map) in
      let stays : map state (set now i t) ≡ map state now =
      grind (arith, map-set, set-get_or, here') in
      let on = take_more (map state now) i (state s) in
      let push = all_by_recursion_push (λ x. coming x ≡ give (state x)) (take i now) t in
      let long = length-map now state in
      grind (arith, stays, take_more_set, push, w, same, here, on, here', long, sets_more, new)
