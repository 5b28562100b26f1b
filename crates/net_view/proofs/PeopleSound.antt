-- How an item spells persons.
use Rattle.net_view.proofs.{Holds.of_last, Keys.is_same, PartsSound.{IsSoundListing, IsSoundTold}}
use Rattle.net_view.proofs.Words.{◌∷◌, ◌≡◌, Bool, IfSome, IsSomeAnd, IsSpelling, List, Listing}
use Rattle.net_view.proofs.Words.{None, Some, Text, Token, Told, [], arith, false, is_some, last_in}
use Rattle.net_view.proofs.Words.{lists, name_before, refl, says_member, says_spelling, spelled_in}
use Rattle.net_view.proofs.Words.{true, unwrap_or}

-- what is said is sound
pub said_spelling : (settings : List Token) (us on : Text → Bool) (t : Told) (n : Text)
    → IsSoundTold settings t
    → IfSome (says_spelling us on t n) (λ x. IsSomeAnd x (IsSpelling settings n))
said_spelling settings us on t n sound =
    let listed = of_last (IsSpelling settings n) (IsSoundListing settings) (spelled_in n)
    (λ l s. grind (arith, is_same n l.person.key)) in
    grind (arith, is_same n, listed)

-- who is listed is spelled
pub last_spelled : (n : Text) (ls : List Listing) → is_some (last_in (spelled_in n) ls) ≡ lists n ls
last_spelled n [] = refl
last_spelled n (l ∷ ls) = grind (arith, last_spelled n ls)

-- somebody whom an item makes a member of a channel that we are on, it spells
pub new_member_is_spelled : (c : Text) (us on : Text → Bool) (t : Told) (n : Text) → on c ≡ true
    → unwrap_or (says_member c us t n) false ≡ true → is_some (says_spelling us on t n) ≡ true
new_member_is_spelled c us on t n o h = grind (arith, is_same c, last_spelled n)

pub unspelled_keeps_name : (us on : Text → Bool) (t : Told) (n m : Text)
    → says_spelling us on t n ≡ None → name_before us t n ≡ Some m → m ≡ n
unspelled_keeps_name us on t n m s h = grind arith
