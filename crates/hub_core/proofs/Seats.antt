-- Sessions stay within their number, and in the order of their numbers.
use Rattle.hub_core.proofs.Words
use Words.{◌++◌, ◌+◌, ◌<◌, ◌∷◌, ◌≡◌, ◌≤◌, AllByRecursion, Bool, Delivered, IfSome, List, Option, Parts}
use Words.{HubState, None, SessionState, Some, Text, [], arith, nat_tests, inl, inr, length, length-append, refl, ℕ}
use Rattle.hub_core.proofs.Each.{each_append}
use Rattle.hub_core.specs.Bounds.{AreSeated, RiseFrom}
use Rattle.hub_core.specs.Upkeep.{AreFreed}
use Rattle.hub_core.specs.Attaching.{refusal_of}
use Rattle.history.specs.Messages.{number_after}
use Rattle.std.specs.Prelude.{◌⊎◌}

-- of these sessions, those are left, each with its number
abbrev pub Remain : List SessionState → List SessionState → Type 0
Remain [] ts = ts ≡ []
Remain (s ∷ ss) ts =
    ((t : SessionState) × (rest : List SessionState) × (ts ≡ t ∷ rest) × (t.id ≡ s.id)
    × Remain ss rest) ⊎ Remain ss ts

-- ---- who is left after a step

pub all_remain : (ss : List SessionState) → Remain ss ss
all_remain [] = refl
all_remain (s ∷ ss) = inl (s, ss, refl, refl, all_remain ss)

pub remain_sent : (alone : Bool) (give : SessionState → Option (List Parts))
    (ss ts : List SessionState) → Delivered alone give ss ts → Remain ss ts
remain_sent alone give [] ts d = d
remain_sent alone give (s ∷ ss) ts (inl (o, rest, are, sends, d)) =
    inl (_, rest, are, refl, remain_sent alone give ss rest d)
remain_sent alone give (s ∷ ss) ts (inr (full, d)) = inr (remain_sent alone give ss ts d)

pub remain_freed : (alone : Bool) (ss ts : List SessionState) → AreFreed alone ss ts → Remain ss ts
remain_freed alone [] ts f = f
remain_freed alone (s ∷ ss) ts (o, rest, found, are, f) =
    inl (_, rest, are, refl, remain_freed alone ss rest f)

-- one of them is gone
pub remain_without : (front : List SessionState) (s : SessionState) (back : List SessionState)
    → Remain (front ++ s ∷ back) (front ++ back)
remain_without [] s back = inr (all_remain back)
remain_without (f ∷ fs) s back = inl (f, fs ++ back, refl, refl, remain_without fs s back)

-- another is in its place, of the same number
pub remain_with : (front : List SessionState) (s t : SessionState) (back : List SessionState)
    → t.id ≡ s.id → Remain (front ++ s ∷ back) (front ++ t ∷ back)
remain_with [] s t back same = inl (t, back, refl, same, all_remain back)
remain_with (f ∷ fs) s t back same =
    inl (f, fs ++ t ∷ back, refl, refl, remain_with fs s t back same)

-- ---- they are seated

lower : (m n : ℕ) (ss : List SessionState) → m ≤ n → RiseFrom n ss → RiseFrom m ss
lower m n [] le rise = tt
lower m n (s ∷ ss) le rise = (omega (arith, rise.0), rise.1)

rise_left : (n : ℕ) (ss ts : List SessionState) → Remain ss ts → RiseFrom n ss → RiseFrom n ts
rise_left n [] ts left rise = rw left tt
rise_left n (s ∷ ss) ts (inl (t, rest, are, same, left)) rise =
    rw (are, same) (rise.0, rise_left (s.id + 1) ss rest left rise.1)
rise_left n (s ∷ ss) ts (inr left) rise =
    lower n (s.id + 1) ts (omega (arith, rise.0)) (rise_left (s.id + 1) ss ts left rise.1)

few_left : (ss ts : List SessionState) → Remain ss ts → length ts ≤ length ss
few_left [] ts left = rw left (omega arith)
few_left (s ∷ ss) ts (inl (t, rest, are, same, left)) =
    rw are (omega (arith, few_left ss rest left))
few_left (s ∷ ss) ts (inr left) = omega (arith, few_left ss ts left)

below_left : (number : ℕ) (ss ts : List SessionState) → Remain ss ts
    → AllByRecursion (λ (s : SessionState). s.id < number) ss
    → AllByRecursion (λ (s : SessionState). s.id < number) ts
below_left number [] ts left all = rw left tt
below_left number (s ∷ ss) ts (inl (t, rest, are, same, left)) all =
    rw (are, same) (all.0, below_left number ss rest left all.1)
below_left number (s ∷ ss) ts (inr left) all = below_left number ss ts left all.1

below_next : (next : Option ℕ) (ss ts : List SessionState) → Remain ss ts
    → IfSome next (λ number. AllByRecursion (λ (s : SessionState). s.id < number) ss)
    → IfSome next (λ number. AllByRecursion (λ (s : SessionState). s.id < number) ts)
below_next None ss ts left all = tt
below_next (Some number) ss ts left all = below_left number ss ts left all

pub seated : {next : Option ℕ} {ss ts : List SessionState} → Remain ss ts → AreSeated next ss
    → AreSeated next ts
seated {next = next} {ss = ss} {ts = ts} left s = record {
  few = omega (arith, few_left ss ts left, s.few);
  rise = rise_left 0 ss ts left s.rise;
  below = below_next next ss ts left s.below;
}

pub seated_freed : (alone : Bool) (next : Option ℕ) (ss ts : List SessionState)
    → AreFreed alone ss ts → AreSeated next ss → AreSeated next ts
seated_freed alone next ss ts freed s = seated (remain_freed alone ss ts freed) s

-- ---- one more

-- who is attached comes to fewer than 64
pub under_limit : (h : HubState) (name : Option Text) → refusal_of h name ≡ None
    → length h.sessions < 64
under_limit h name e = grind (arith, nat_tests, e)

rise_more : (n : ℕ) (ss : List SessionState) (t : SessionState) → n ≤ t.id
    → AllByRecursion (λ (s : SessionState). s.id < t.id) ss → RiseFrom n ss
    → RiseFrom n (ss ++ t ∷ [])
rise_more n [] t le all rise = (le, tt)
rise_more n (s ∷ ss) t le all rise =
    (rise.0, rise_more (s.id + 1) ss t (omega (arith, all.0)) all.1 rise.1)

below_more : (number : ℕ) (ss : List SessionState) (t : SessionState) → t.id ≡ number
    → AllByRecursion (λ (s : SessionState). s.id < number) ss
    → AllByRecursion (λ (s : SessionState). s.id < number + 1) (ss ++ t ∷ [])
below_more number [] t is all = (omega (arith, is), tt)
below_more number (s ∷ ss) t is all =
    (omega (arith, all.0), below_more number ss t is all.1)

pub seated_more : {id : ℕ} {ss : List SessionState} (t : SessionState) → t.id ≡ id
    → length ss < 64 → AreSeated (Some id) ss → AreSeated (number_after id) (ss ++ t ∷ [])
seated_more {id = id} {ss = ss} t is few s = record {
  few = omega (arith, length-append ss (t ∷ []), few);
  rise = rise_more 0 ss t (omega arith) (rw is s.below) s.rise;
  below = let more = below_more id ss t is s.below in grind arith;
}
