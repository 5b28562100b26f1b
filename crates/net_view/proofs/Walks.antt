-- Walks through what a view shows of a channel: what is left after a place.
use Rattle.std.specs.FinMap as fin
use Rattle.net_view.proofs.Words.{◌+◌, ◌∷◌, ◌≡◌, IfSome, List, None, Option, Some, Text, View, []}
use Rattle.net_view.proofs.Words.{arith, nat_cmp, option_map, slice_get, suc, true, ℕ}
use Rattle.net_view.specs.{Readers.{MemberParts, member_shown, mode_shown}, Walks.member_parts_at}
use Rattle.net_view.specs.{Walks.{modes_at, parts_of}, declared.channel.Member.Member}
use Rattle.std.proofs.{Common.{◌≤◌, add-one, drop, zero}, lemmas.Option.slice_get_within}
use Rattle.std.{proofs.Math.{ListN.drop_of_length-le, Seq.drop-cons}, specs.Iterator.YieldsFirstBy}
use Rattle.std.proofs.lemmas.Option.{get_or_from_slice_get, slice_get-map, slice_get_cases}

-- what is at a place comes first of what is left, and after the last place nothing is left
pub first_left : {A B : Type 0} (view : A → B) (xs : List B) (j : ℕ) (r : Option A)
    → option_map view r ≡ slice_get xs j
    → YieldsFirstBy view (λ (left : List B). left) (drop j xs) r (drop (j + 1) xs)
first_left view xs j None e = grind (arith, slice_get_cases xs j, drop_of_length-le xs)
first_left view xs j (Some x) e =
    grind (arith, slice_get_within xs, get_or_from_slice_get xs j, drop-cons xs j (view x), add-one)

module _ (v : View) (i j : ℕ) where
  pub mode_here : mode_shown v i j ≡ slice_get (modes_at v i) j
  mode_here = grind arith

  pub member_here : member_shown v i j ≡ slice_get (member_parts_at v i) j
  member_here = grind (arith, slice_get-map)

-- ---- letters rise, so none is at a place above it

rises : (k : ℕ) (es : List (ℕ × Option Text)) (j : ℕ) (x : ℕ × Option Text)
    → IfSome (slice_get es 0) (λ e. k ≤ e.0) → fin.is_sorted nat_cmp es ≡ true
    → slice_get es j ≡ Some x → k + j ≤ x.0
rises k [] j x least sorted at = cc
rises k (e ∷ es) zero x least sorted at = grind arith
rises k (e ∷ []) (suc j) x least sorted at = cc
rises k (e ∷ d ∷ es) (suc j) x least sorted at = grind (arith, rises (suc e.0) (d ∷ es) j x)

pub letter_at_place : (v : View) (i j letter : ℕ) (param : Option Text)
    → mode_shown v i j ≡ Some (letter, param) → j ≤ letter
letter_at_place v i j letter param at = grind (arith, rises 0, fin.entries_sorted)

-- what is lent of a member, clause by clause
pub member_lent : (o : Option MemberParts) (r : Option Member) → option_map (λ m. m.nick.now) r
    ≡ option_map (λ m. m.nick) o → option_map (λ m. m.ranks) r ≡ option_map (λ m. m.ranks) o
    → option_map (λ m. option_map (λ t. t.now) m.account) r ≡ option_map (λ m. m.account) o
    → option_map (λ m. option_map (λ t. t.now) m.away) r ≡ option_map (λ m. m.away) o
    → option_map parts_of r ≡ o
member_lent o r nick ranks account away = grind arith
