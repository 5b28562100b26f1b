-- What is left to say about a network that is removed or changed.
use Rattle.std.proofs.Common.{◌≡◌, ◌≤◌, ℕ, Bool, true, false, not, nat_eq, ◌&&◌, ◌||◌, List, refl, arith, IfSome, None, Option, Some, get_or, sym}
use Rattle.std.proofs.lemmas.List.Sums.{sum_by-le-sum_by}
use Rattle.steward.specs.declared.network.Network.{Network}
use Rattle.steward.specs.Networks.{is_online_by, has_number, is_online_as, onlines}
use Rattle.steward.specs.declared.client.Client.{Client}
use Rattle.steward.specs.Clients.{is_open_in}
use Rattle.steward.specs.Partings.{IsOpenIn, is_changed_at, is_left_at, is_outdated_at, outdated}
use Rattle.steward.proofs.Counts.{bit}
use Rattle.steward.proofs.Filters.{get_or-any}
use Rattle.steward.proofs.Fleets.{bit_of}
use Rattle.steward.proofs.Withins.{anybody}
use Rattle.std.specs.List.{position}
use Rattle.std.proofs.lemmas.List.Quantifiers.{position-Some}

both_le : (b t : Bool) → bit (b && t) ≤ bit t
both_le true t = omega arith
both_le false t = omega arith

outer_le : (a b t : Bool) → bit (a && b && t) ≤ bit t
outer_le true true t = omega arith
outer_le true false t = omega arith
outer_le false b t = omega arith

middle_le : (a b t : Bool) → bit (a && b && t) ≤ bit (a && t)
middle_le true true t = omega arith
middle_le true false t = omega arith
middle_le false b t = omega arith

middle_off : (a b t : Bool) → b ≡ false → bit (a && b && t) ≡ 0
middle_off true true t e = cc
middle_off true false t e = refl
middle_off false b t e = refl

neither : (a b : Bool) → a ≡ false → b ≡ false → (a || b) ≡ false
neither false false e f = refl
neither true b e f = cc
neither false true e f = cc

pub left_numbered : (n : ℕ) (z : Network) → bit (is_left_at n z) ≤ bit (has_number n z)
left_numbered n z = both_le z.is_left (nat_eq z.number n)

pub outdated_numbered : (n : ℕ) (z : Network) → bit (is_outdated_at n z) ≤ bit (has_number n z)
outdated_numbered n z = outer_le (is_online_by z.phase) (z.is_left || z.is_changed) (nat_eq z.number n)

-- without a connection that has let us in there is none by settings of before
pub outdated-le : (n : ℕ) (xs : List Network) → outdated n xs ≤ onlines n xs
outdated-le n xs =
    sum_by-le-sum_by (λ z. bit (is_outdated_at n z)) (λ z. bit (is_online_as n z)) xs (λ z. middle_le (is_online_by z.phase) (z.is_left || z.is_changed) (nat_eq z.number n))

pub not_outdated : (n : ℕ) (x : Network) → x.is_left ≡ false → x.is_changed ≡ false →
    bit (is_outdated_at n x) ≡ 0
not_outdated n x e f =
    middle_off (is_online_by x.phase) (x.is_left || x.is_changed) (nat_eq x.number n) (neither x.is_left x.is_changed e f)

pub not_left : (n : ℕ) (x : Network) → x.is_left ≡ false → bit (is_left_at n x) ≡ 0
not_left n x e = rw e refl

pub unchanged_mark : (b : Bool) → not b ≡ true → b ≡ false
unchanged_mark true e = cc
unchanged_mark false e = refl

pub changed_numbered : (n : ℕ) (z : Network) → bit (is_changed_at n z) ≤ bit (has_number n z)
changed_numbered n z = both_le z.is_changed (nat_eq z.number n)

both_on : (b t : Bool) → b ≡ true → bit t ≡ 1 → bit (b && t) ≡ 1
both_on true t e f = f
both_on false t e f = cc

pub is_left_one : (n : ℕ) (x : Network) → x.is_left ≡ true → x.number ≡ n → bit (is_left_at n x) ≡ 1
is_left_one n x e f = both_on x.is_left (nat_eq x.number n) e (bit_of x.number n _ refl f)

changed_mark : (b : Bool) → not b ≡ false → b ≡ true
changed_mark true e = refl
changed_mark false e = cc

pub is_changed_one : (n : ℕ) (x : Network) → not x.is_changed ≡ false → x.number ≡ n →
    bit (is_changed_at n x) ≡ 1
is_changed_one n x e f =
    both_on x.is_changed (nat_eq x.number n) (changed_mark x.is_changed e) (bit_of x.number n _ refl f)

-- the client that a search found, by the number that it has
pub found_open : (n : ℕ) (xs : List Client) (i : ℕ) (r : Option ℕ) →
    position (is_open_in n) xs ≡ Some i → IfSome r (λ k. k ≡ (get_or xs i anybody).number) →
    IfSome r (λ k. IsOpenIn k n xs)
found_open n xs i None p h = tt
found_open n xs i (Some k) p h =
    let s = position-Some (is_open_in n) xs i anybody p in
    (i, get_or xs i anybody, s.0, get_or-any xs i _ anybody s.0, (sym h, s.1))
