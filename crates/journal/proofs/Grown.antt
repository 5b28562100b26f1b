-- The messages that came since: those that a history still has of them, and what a batch of them
-- does.
use Rattle.std.proofs.Common.{◌≡◌, ◌∙◌, ◌+◌, ◌-◌, ◌^◌, ◌<◌, ◌≤◌, ◌++◌, arith, ℕ, Bool, List, [], ◌∷◌}
use Rattle.std.proofs.Common.{Option, Some, Ok, true, false, refl, sym, ap, suc, zero, inl, inr}
use Rattle.std.proofs.Common.{Bor, append-nil, append_assoc, filter, length, map, reverse, subst}
use Rattle.std.specs.Prelude.{nat_eq, nat_le, nat_lt}
use Rattle.std.specs.List.{AllByRecursion, enumerate_from}
use Rattle.std.proofs.lemmas.Bool.Decides.{nat_tests}
use Rattle.std.proofs.lemmas.List.{length-append}
use Rattle.std.proofs.lemmas.List.Elements.{filter-append}
use Rattle.std.proofs.lemmas.List.FromFn.{length-enumerate_from}
use Rattle.irc_line.proofs.Logic.{cases_Bool}
use Rattle.history.specs.Entry.{EntryParts}
use Rattle.history.specs.Messages.{CanComeAgain, Messages, is_missed, is_with_person, number_after}
use Rattle.history.specs.Messages.{target_key, target_limit, with_message}
use Rattle.history.specs.Retained.{looking_back_apart, of_kind, stays}
use Rattle.journal.specs.Changes.{grown, messages_from, none_missing, number_before}
use Rattle.journal.specs.Kept.{KeptParts, after, after_each, skipped, then_after, with_history}
use Rattle.journal.specs.Records.{message, next}
use Rattle.journal.specs.Snapshots.{first_of, message_records, messages_until}

abbrev Numbered : Type 0
Numbered = List (ℕ × EntryParts)

-- ---- of which some went

-- no more than those, and if the number is the same, then those
record Within {X : Type 0} (l m : List X) : Type 0 where
  few : length l ≤ length m
  same : length l ≡ length m → l ≡ m

within_trans : {X : Type 0} (a b c : List X) → Within a b → Within b c → Within a c
within_trans a b c ab bc = record {
  few = omega (arith, ab.few, bc.few);
  same = λ e.
      let one : length a ≡ length b = omega (arith, ab.few, bc.few, e) in
      let two : length b ≡ length c = omega (arith, ab.few, bc.few, e) in
      ab.same one ∙ bc.same two;
}

within_more : {X : Type 0} (a b c : List X) → Within a b → Within (a ++ c) (b ++ c)
within_more a b c ab = record {
  few = omega (arith, ab.few, length-append a c, length-append b c);
  same = λ e.
      let one : length a ≡ length b = omega (arith, e, length-append a c, length-append b c) in
      ap (λ (l : List _). l ++ c) (ab.same one);
}

module _ {X : Type 0} (key : X → List ℕ) (kind : X → Bool) (test : List ℕ → List X → Bool)
    (p : X → Bool) where
  with_one : (m : X) (a b : List X) → Within a b → Within (m ∷ a) (m ∷ b)
  with_one m a b w = record {
    few = omega (arith, w.few);
    same = λ e.
        let one : length a ≡ length b = omega (arith, e) in
        ap (λ (l : List X). m ∷ l) (w.same one);
  }

  without_one : (m : X) (a b : List X) → Within a b → Within a (m ∷ b)
  without_one m a b w = record {
    few = omega (arith, w.few);
    same = λ e.
        let more : length a ≡ length b + 1 = omega (arith, e) in
        absurd (omega (arith, more, w.few));
  }

  those_that_stay : (ms : List X)
      → Within (filter p (looking_back_apart key kind test ms)) (filter p ms)
  those_that_stay [] = record { few = omega arith; same = λ _. refl }
  those_that_stay (m ∷ ms) =
      let rest = those_that_stay ms in
      let a = filter p (looking_back_apart key kind test ms) in
      let b = filter p ms in
      elim (cases_Bool (test (key m) (filter (of_kind kind (kind m)) (reverse ms)))) [
        | inl stays ↦ elim (cases_Bool (p m)) [
          | inl has ↦ rw (stays, has) (with_one m a b rest)
          | inr lacks ↦ rw (stays, lacks) rest
        ]
        | inr goes ↦ elim (cases_Bool (p m)) [
          | inl has ↦ rw (goes, has) (without_one m a b rest)
          | inr lacks ↦ rw (goes, lacks) rest
        ]
      ]

one_came : (p : ℕ × EntryParts → Bool) (n : ℕ) (e : EntryParts) (h : Messages)
    → p (n, e) ≡ true
    → Within (filter p (with_message n e h).kept) (filter p h.kept ++ (n, e) ∷ [])
one_came p n e h passes =
    let all : filter p (h.kept ++ (n, e) ∷ []) ≡ filter p h.kept ++ (n, e) ∷ [] =
    filter-append p h.kept ((n, e) ∷ []) ∙ rw passes refl in
    subst (λ (l : Numbered). Within (filter p (with_message n e h).kept) l) all
    (those_that_stay target_key is_with_person (stays target_key target_limit h.capacity) p
    (h.kept ++ (n, e) ∷ []))

many_came : (p : ℕ × EntryParts → Bool) (n : ℕ) (es : List EntryParts) (h : Messages)
    → ((j : ℕ) (e : EntryParts) → n ≤ j → p (j, e) ≡ true)
    → Within (filter p (grown n es h).kept) (filter p h.kept ++ enumerate_from n es)
many_came p n [] h passes =
    subst (λ (l : Numbered). Within (filter p h.kept) l) (sym (append-nil (filter p h.kept)))
    (record { few = omega arith; same = λ _. refl })
many_came p n (e ∷ es) h passes =
    let more = with_message n e h in
    let later = enumerate_from (n + 1) es in
    let rest = many_came p (n + 1) es more (λ j f le. passes j f (omega (arith, le))) in
    let first = within_more (filter p more.kept) (filter p h.kept ++ (n, e) ∷ []) later
    (one_came p n e h (passes n e (omega arith))) in
    subst (λ (l : Numbered). Within (filter p (grown n (e ∷ es) h).kept) l)
    (append_assoc (filter p h.kept) ((n, e) ∷ []) later)
    (within_trans (filter p (grown (n + 1) es more).kept) (filter p more.kept ++ later)
    ((filter p h.kept ++ (n, e) ∷ []) ++ later) rest first)

-- ---- of which none went

passes_from : (n j : ℕ) (e : EntryParts) → n ≤ j → is_missed (number_before n) (j, e) ≡ true
passes_from zero j e le = refl
passes_from (suc n) j e le = grind (arith, nat_tests, le)

fails_below : (n j : ℕ) (e : EntryParts) → j < n → is_missed (number_before n) (j, e) ≡ false
fails_below zero j e lt = absurd (omega (arith, lt))
fails_below (suc n) j e lt = grind (arith, nat_tests, lt)

none_from : (n : ℕ) (ms : Numbered) → AllByRecursion (λ (m : ℕ × EntryParts). m.0 < n) ms
    → filter (is_missed (number_before n)) ms ≡ []
none_from n [] below = refl
none_from n (m ∷ ms) below =
    rw (fails_below n m.0 m.1 below.0) (none_from n ms below.1)

-- the number after messages
numbers_on : (n : ℕ) (e : EntryParts) (es : List EntryParts) (h : Messages)
    → (grown n (e ∷ es) h).next ≡ number_after (n + length es)
numbers_on n e [] h = ap number_after (let whole : n ≡ n + 0 = omega arith in whole)
numbers_on n e (f ∷ es) h =
    numbers_on (n + 1) f es (with_message n e h)
    ∙ ap number_after (let count : (n + 1) + length es ≡ n + length (f ∷ es) = omega arith in count)

after_is : (n last : ℕ) → number_after n ≡ Some last → (last ≡ n + 1) × (last < 2 ^ 64)
after_is n last e = grind (arith, nat_tests, e)

some_is : (n m : ℕ) → ◌≡◌ {A = Option ℕ} (Some n) (Some m) → n ≡ m
some_is n m e = cc

pub last_is : (n last : ℕ) (es : List EntryParts) (h : Messages) → h.next ≡ Some n
    → (grown n es h).next ≡ Some last → last ≡ n + length es
last_is n last [] h first now =
    let same : n ≡ last = some_is n last (sym first ∙ now) in omega (arith, same)
last_is n last (e ∷ es) h first now =
    let end = after_is (n + length es) last (sym (numbers_on n e es h) ∙ now) in
    omega (arith, end.0)

-- if none went, those that are kept are those that came
pub all_came : (n last : ℕ) (es : List EntryParts) (h g : Messages)
    → AllByRecursion (λ (m : ℕ × EntryParts). m.0 < n) h.kept → h.next ≡ Some n
    → g ≡ grown n es h → g.next ≡ Some last → none_missing n last g ≡ true
    → messages_from n g ≡ enumerate_from n es
all_came n last es h g below first is now none =
    let p = is_missed (number_before n) in
    let came = many_came p n es h (λ j e le. passes_from n j e le) in
    let old : filter p h.kept ++ enumerate_from n es ≡ enumerate_from n es =
    ap (λ (l : Numbered). l ++ enumerate_from n es) (none_from n h.kept below) in
    let within : Within (messages_from n g) (enumerate_from n es) =
    subst (λ (l : Numbered). Within (messages_from n g) l) old
    (subst (λ (j : Messages). Within (filter p j.kept) (filter p h.kept ++ enumerate_from n es))
    (sym is) came) in
    let count : last ≡ n + length es =
    last_is n last es h first (ap (λ (j : Messages). j.next) (sym is) ∙ now) in
    let size : length (messages_from n g) ≡ last - n = grind (arith, nat_tests, none) in
    within.same (omega (arith, count, size, length-enumerate_from n es))

-- ---- what their records do

messages_do : (k : KeptParts) (n last : ℕ) (es : List EntryParts) → k.history.next ≡ Some n
    → last ≡ n + length es → last < 2 ^ 64
    → after_each (messages_until n (enumerate_from n es) last) k
    ≡ Ok (record k { history = grown n es k.history })
messages_do k n last [] first count small =
    let whole : nat_eq n last ≡ true = grind (arith, nat_tests, count) in
    rw whole refl
messages_do k n last (e ∷ es) first count small =
    let here : nat_eq n n ≡ true = grind (arith, nat_tests) in
    let room : nat_lt n (2 ^ 64 - 1) ≡ true = grind (arith, nat_tests, count, small) in
    let more : nat_lt (n + 1) (2 ^ 64) ≡ true = grind (arith, nat_tests, count, small) in
    let now = record k { history = with_message n e k.history } in
    let one : after (message e) k ≡ Ok now = rw (first, room) refl in
    let rest = messages_do now (n + 1) last es (rw more refl) (omega (arith, count)) small in
    rw here
    (ap (then_after (after_each (messages_until (n + 1) (enumerate_from (n + 1) es) last))) one
    ∙ rest)

begins_at : (n last : ℕ) (es : List EntryParts) → last ≡ n + length es
    → first_of (enumerate_from n es) last ≡ n
begins_at n last [] count = omega (arith, count)
begins_at n last (e ∷ es) count = refl

pub batch_does : (k : KeptParts) (n last : ℕ) (es : List EntryParts) → k.history.next ≡ Some n
    → last ≡ n + length es → last < 2 ^ 64
    → after_each (message_records (enumerate_from n es) last) k
    ≡ Ok (record k { history = grown n es k.history })
batch_does k n last es first count small =
    let begins : first_of (enumerate_from n es) last ≡ n = begins_at n last es count in
    let low : nat_le n n ≡ true = grind (arith, nat_tests) in
    let same : record k { history = record k.history { next = Some n } } ≡ k =
    ap (λ (j : Option ℕ). record k { history = record k.history { next = j } }) (sym first) in
    let one : after (next n) k ≡ Ok k =
    ap (λ (o : Option ℕ). with_history k (skipped n o k.history)) first
    ∙ rw low (ap (λ (j : KeptParts). Ok j) same) in
    ap (λ (f : ℕ). after_each (next f ∷ messages_until f (enumerate_from n es) last) k) begins
    ∙ ap (then_after (after_each (messages_until n (enumerate_from n es) last))) one
    ∙ messages_do k n last es first count small

-- ---- for the code

below_all : (p : ℕ × EntryParts → Bool) (last : ℕ) (ms : Numbered)
    → AllByRecursion (λ (m : ℕ × EntryParts). m.0 < last) ms
    → AllByRecursion (λ (m : ℕ × EntryParts). m.0 < last) (filter p ms)
below_all p last [] all = tt
below_all p last (m ∷ ms) all = elim (cases_Bool (p m)) [
  | inl has ↦ rw has (all.0, below_all p last ms all.1)
  | inr lacks ↦ rw lacks (below_all p last ms all.1)
]

pub all_below : (n last : ℕ) (h : Messages) (ms : List (ℕ × Bor EntryParts))
    → map (λ (m : ℕ × Bor EntryParts). (m.0, m.1.now)) ms ≡ messages_from n h → CanComeAgain h
    → h.next ≡ Some last
    → AllByRecursion (λ (m : ℕ × EntryParts). m.0 < last)
    (map (λ (m : ℕ × Bor EntryParts). (m.0, m.1.now)) ms)
all_below n last h ms is again is_next =
    let below : AllByRecursion (λ (m : ℕ × EntryParts). m.0 < last) h.kept =
    rw is_next at again.below in
    rw is (below_all (is_missed (number_before n)) last h.kept below)
