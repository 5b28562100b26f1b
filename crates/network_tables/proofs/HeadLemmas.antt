-- Keys compare as their heads do if these differ.
use Rattle.{irc_support.specs.Text.Text, network_tables.specs.Head.{AreBytesTo, head_at, head_of}}
use Rattle.{net_view.specs.Names.bytes_cmp, std.specs.Cmp.Lexicographic.nat_list_cmp_total}
use Rattle.std.proofs.{Common.{arith, drop, refl, sym}, Math.Nat.{mul-le-mul_right, pow-succ'}}
use Rattle.std.specs.{Cmp.ranks, Ordering.{MatchOrdering, nat_cmp, ordering_reverse, ordering_then}}
use Rattle.std.specs.Prelude.{◌*◌, ◌+◌, ◌<◌, ◌^◌, ◌∷◌, ◌≡◌, ◌≤◌, [], length, suc, zero, ℕ}
use Rattle.std.specs.declared.cmp.Ordering.{Ordering, TheVariants.{Equal, Greater, Less}}

-- a number of which the first digit is b
small : (p b x : ℕ) → b < 256 → x < p → b * p + x < 256 * p
small p b x l m = let e : b * p ≤ 255 * p = mul-le-mul_right p (omega arith) in omega (arith, e)

apart : (p a b x y : ℕ) → x < p → b < a → b * p + x < a * p + y
apart p a b x y m l = let e : suc b * p ≤ a * p = mul-le-mul_right p l in omega (arith, e)

head_small : (n : ℕ) (xs : Text) → AreBytesTo n xs → head_at n xs < 256 ^ n
head_small zero xs h = omega arith
head_small (suc n) [] h =
    omega (arith, pow-succ' 256 n, head_small n [] (none n))
  where
    none : (n : ℕ) → AreBytesTo n []
    none zero = tt
    none (suc n) = tt
head_small (suc n) (b ∷ xs) h =
    rw (pow-succ' 256 n) (small (256 ^ n) b (head_at n xs) h.0 (head_small n xs h.1))

-- numbers of two digits compare as their first digits do, and if these are one as the others do
first_less : (p x y a b : ℕ) (r : Ordering) → b < p → (a < b → r ≡ Less) → x * p + a < y * p + b
    → ordering_then (nat_cmp x y) r ≡ Less
first_less p x y a b r m next l = grind (arith, apart p x y b a m)

first_equal : (p x y a b : ℕ) (r s : Ordering) → a < p → b < p → (a ≡ b → r ≡ s)
    → x * p + a ≡ y * p + b → r ≡ ordering_then (nat_cmp x y) s
first_equal p x y a b r s k m next e = grind (arith, apart p y x a b k, apart p x y b a m)

less : (n : ℕ) (xs ys : Text) → AreBytesTo n ys → head_at n xs < head_at n ys
    → bytes_cmp xs ys ≡ Less
less zero xs ys k l = absurd (omega arith)
less (suc n) [] [] k l = absurd (omega arith)
less (suc n) [] (y ∷ ys) k l = refl
less (suc n) (x ∷ xs) [] k l = absurd (omega arith)
less (suc n) (x ∷ xs) (y ∷ ys) k l =
    first_less (256 ^ n) x y _ _ _ (head_small n ys k.1) (less n xs ys k.1) l

-- keys whose heads differ
pub by_heads : (a b : Text) → AreBytesTo 8 a → AreBytesTo 8 b → (r : Ordering)
    → r ≡ nat_cmp (head_of a) (head_of b) → (r ≡ Equal → ⊥) → r ≡ bytes_cmp a b
by_heads a b h k r e differ = by r (rw e (ranks (head_of a) (head_of b))) differ
  where
    by : (r : Ordering)
        → MatchOrdering r (head_of a < head_of b) (head_of a ≡ head_of b) (head_of b < head_of a)
        → (r ≡ Equal → ⊥) → r ≡ bytes_cmp a b
    by Less m differ = sym (less 8 a b k m)
    by Equal m differ = absurd (differ refl)
    by Greater m differ = rw (nat_list_cmp_total.antisymm a b, less 8 b a h m)

-- keys of one head, by what comes after it
pub behind : (n : ℕ) (a b : Text) → n ≤ length a → n ≤ length b → AreBytesTo n a → AreBytesTo n b
    → head_at n a ≡ head_at n b → bytes_cmp (drop n a) (drop n b) ≡ bytes_cmp a b
behind zero a b l m h k e = refl
behind (suc n) [] b l m h k e = absurd (omega arith)
behind (suc n) (x ∷ xs) [] l m h k e = absurd (omega arith)
behind (suc n) (x ∷ xs) (y ∷ ys) l m h k e =
    first_equal (256 ^ n) x y _ _ _ _ (head_small n xs h.1) (head_small n ys k.1)
    (behind n xs ys (omega arith) (omega arith) h.1 k.1) e

-- numbers that are found equal
pub level : (x y : ℕ) → Equal ≡ nat_cmp x y → x ≡ y
level x y e = rw (← e) at (ranks x y)

-- what is the other way round
pub turned : (a b : Text) → ordering_reverse (bytes_cmp a b) ≡ bytes_cmp b a
turned a b = sym (nat_list_cmp_total.antisymm b a)
