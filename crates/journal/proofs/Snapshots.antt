-- After the records of a snapshot all of it is kept.
use Rattle.std.proofs.Common.{◌≡◌, ◌∙◌, ◌+◌, ◌-◌, ◌^◌, ◌<◌, ◌≤◌, ◌++◌, arith, ℕ, List, [], ◌∷◌}
use Rattle.std.proofs.Common.{Option, Some, None, Result, Ok, Err, T, true, false, refl, sym, ap}
use Rattle.std.proofs.Common.{subst, inl, inr, append-nil, append_assoc, length, ltb, map}
use Rattle.std.proofs.Common.{Bor, drop, suc, zero}
use Rattle.std.specs.Prelude.{slice_get}
use Rattle.std.proofs.lemmas.List.{drop_all}
use Rattle.std.specs.Prelude.{nat_eq, nat_le}
use Rattle.std.specs.FinMap as fin
use Rattle.std.specs.FinMap.{IsAntisymmetric, find, is_sorted, nat_cmp-IsAntisymmetric}
use Rattle.std.specs.FinMap.{get-entries, get-from_entries, get-insert, len-entries, len-empty}
use Rattle.std.specs.FinMap.{len-insert, entries_sorted}
use Rattle.std.specs.FinMap.{from_entries_push, same_map, slice_cmp-IsAntisymmetric}
use Rattle.std.specs.FinMap.Entries.{below_all}
use Rattle.std.specs.Cmp.{Lexicographic.nat_list_cmp_total}
use Rattle.std.specs.List.{AllByRecursion, flat_map}
use Rattle.std.specs.Ordering.{eq_by_cmp}
use Rattle.std.proofs.lemmas.Bool.{lt-ltb}
use Rattle.std.proofs.lemmas.Bool.Decides.{nat_tests}
use Rattle.std.proofs.lemmas.List.{length-append, length-map, map-append}
use Rattle.irc_line.proofs.Logic.{cases_Bool}
use Rattle.history.specs.Entry.{EntryParts}
use Rattle.history.specs.Marks.{NameMarks, bytes_cmp, mark_of, with_mark}
use Rattle.history.specs.Messages.{CanComeAgain, Messages, RiseFrom}
use Rattle.history.proofs.OneMore.{Rises}
use Rattle.journal.proofs.Capacities.{AreBelow, kept_of, one_above, one_more}
use Rattle.journal.specs.Kept.{KeptParts, after, after_each, counted, marked, named, nothing}
use Rattle.journal.specs.Kept.{then_after}
use Rattle.journal.specs.Records.{RecordParts, message, next, parts_of_all, record_parts}
use Rattle.journal.specs.declared.record.Record.{Record}
use Rattle.journal.specs.Snapshots.{GivesBack, channel_records, counting_all, counting_one}
use Rattle.journal.specs.Snapshots.{first_of, message_records, messages_until, name_record}
use Rattle.journal.specs.Snapshots.{name_records, next_to, seen_records, snapshot_of}
use Rattle.journal.specs.declared.damage.Damage.{Damage}

-- ---- records after others

then_two : (rs qs : List RecordParts) (b : KeptParts) (r : Result KeptParts Damage)
    → then_after (after_each rs) r ≡ Ok b
    → ((k : KeptParts) → after_each rs k ≡ Ok b → after_each (rs ++ qs) k ≡ after_each qs b)
    → then_after (after_each (rs ++ qs)) r ≡ after_each qs b
then_two rs qs b (Ok k) e go = go k e
then_two rs qs b (Err d) e go = absurd cc

pub same_ok : (a b : KeptParts) → ◌≡◌ {A = Result KeptParts Damage} (Ok a) (Ok b) → a ≡ b
same_ok a b e = cc

pub after_two : (rs qs : List RecordParts) (a b : KeptParts) → after_each rs a ≡ Ok b
    → after_each (rs ++ qs) a ≡ after_each qs b
after_two [] qs a b e = ap (after_each qs) (same_ok a b e)
after_two (r ∷ rs) qs a b e =
    then_two rs qs b (after r a) e (λ k done. after_two rs qs k b done)

-- ---- messages

abbrev holding : KeptParts → ℕ → List (ℕ × EntryParts) → ℕ → KeptParts
holding k capacity done n =
    record k { history = record { capacity = capacity; kept = done; next = Some n } }

to_next : (k : KeptParts) (capacity : ℕ) (done : List (ℕ × EntryParts)) (e n : ℕ) → e ≤ n
    → after_each (next_to e n) (holding k capacity done e) ≡ Ok (holding k capacity done n)
to_next k capacity done e n le = elim (cases_Bool (nat_eq e n)) [
  | inl same ↦
      let is : e ≡ n = grind (arith, nat_tests, same) in
      rw same (ap (λ (j : ℕ). Ok (holding k capacity done j)) is)
  | inr differs ↦
      let rises : nat_le e n ≡ true = grind (arith, nat_tests, le) in
      rw (differs, rises) refl
]

one_message : (k : KeptParts) (capacity : ℕ) (done : List (ℕ × EntryParts))
    (n : ℕ) (m : ℕ × EntryParts) (last : ℕ) → Rises done → AreBelow n done → n ≤ m.0 → m.0 < last
    → last < 2 ^ 64 → after (message m.1) (holding k capacity (kept_of capacity done) m.0)
    ≡ Ok (holding k capacity (kept_of capacity (done ++ m ∷ [])) (m.0 + 1))
one_message k capacity done n m last order under le lt small =
    let some : ltb m.0 (2 ^ 64 - 1) ≡ true = lt-ltb _ _ (omega (arith, lt, small)) in
    let more : ltb (m.0 + 1) (2 ^ 64) ≡ true = lt-ltb _ _ (omega (arith, lt, small)) in
    rw (some, more, one_more capacity n m done le order under) refl

messages_again : (k : KeptParts) (capacity : ℕ) (done : List (ℕ × EntryParts)) (n : ℕ)
    (ms : List (ℕ × EntryParts)) (last : ℕ) → Rises done → AreBelow n done → RiseFrom n ms
    → AllByRecursion (λ m. m.0 < last) ms → n ≤ last → last < 2 ^ 64
    → after_each (messages_until n ms last) (holding k capacity (kept_of capacity done) n)
    ≡ Ok (holding k capacity (kept_of capacity (done ++ ms)) last)
messages_again k capacity done n [] last order under rise below le small =
    to_next k capacity (kept_of capacity done) n last le
    ∙ ap (λ (l : List (ℕ × EntryParts)). Ok (holding k capacity (kept_of capacity l) last))
    (sym (append-nil done))
messages_again k capacity done n (m ∷ ms) last order under rise below le small =
    let grown = one_above n m done rise.0 order under in
    let later = messages_until (m.0 + 1) ms last in
    let held = kept_of capacity done in
    after_two (next_to n m.0) (message m.1 ∷ later) (holding k capacity held n)
    (holding k capacity held m.0) (to_next k capacity held n m.0 rise.0)
    ∙ ap (then_after (after_each later))
    (one_message k capacity done n m last order under rise.0 below.0 small)
    ∙ messages_again k capacity (done ++ m ∷ []) (m.0 + 1) ms last grown.0 grown.1 rise.1 below.1
    (omega (arith, below.0)) small
    ∙ ap (λ (l : List (ℕ × EntryParts)). Ok (holding k capacity (kept_of capacity l) last))
    (append_assoc done (m ∷ []) ms)

rise_first : (ms : List (ℕ × EntryParts)) (last : ℕ) → RiseFrom 0 ms
    → RiseFrom (first_of ms last) ms
rise_first [] last rise = tt
rise_first (m ∷ ms) last rise = (omega arith, rise.1)

first_low : (ms : List (ℕ × EntryParts)) (last : ℕ) → AllByRecursion (λ m. m.0 < last) ms
    → first_of ms last ≤ last
first_low [] last below = omega arith
first_low (m ∷ ms) last below = let lt : m.0 < last = below.0 in omega (arith, lt)

all_messages : (capacity first last : ℕ) (ms : List (ℕ × EntryParts)) → RiseFrom 0 ms
    → AllByRecursion (λ m. m.0 < last) ms → last < 2 ^ 64
    → first ≤ first_of ms last → after_each (message_records ms last) (nothing capacity first)
    ≡ Ok (holding (nothing capacity first) capacity (kept_of capacity ms) last)
all_messages capacity first last ms rise below small low =
    let f = first_of ms last in
    let start = nothing capacity first in
    let rises : nat_le first f ≡ true = grind (arith, nat_tests, low) in
    let begun : after (next f) start ≡ Ok (holding start capacity [] f) = rw rises refl in
    ap (then_after (after_each (messages_until f ms last))) begun
    ∙ messages_again start capacity [] f ms last tt tt (rise_first ms last rise) below
    (first_low ms last below) small

-- ---- names

pub exact : IsAntisymmetric bytes_cmp
exact = slice_cmp-IsAntisymmetric nat_cmp-IsAntisymmetric

abbrev made : List (List ℕ × Option ℕ) → NameMarks
made es = fin.from_entries es

-- these names with their marks, and the numbers that count
abbrev marking : NameMarks → KeptParts → List (List ℕ × Option ℕ) → KeptParts
marking latest k es = record k { marks = made (counting_all latest es); marked = made es }

few_made : (es : List (List ℕ × Option ℕ)) → fin.len (made es) ≤ length es
few_made [] = omega (arith, len-empty bytes_cmp (Option ℕ))
few_made (e ∷ es) =
    grind (arith, few_made es, len-insert nat_list_cmp_total (made es) e.0 e.1)

below_last : (d x : List ℕ) (v : Option ℕ) (ds es : List (List ℕ × Option ℕ))
    → T (below_all bytes_cmp d (ds ++ (x, v) ∷ es)) → eq_by_cmp bytes_cmp x d ≡ false
below_last d x v [] es low = grind (arith, low, nat_list_cmp_total.antisymm d x)
below_last d x v (e ∷ ds) es low = grind (arith, low, below_last d x v ds es)

new_name : (x : List ℕ) (v : Option ℕ) (done es : List (List ℕ × Option ℕ))
    → T (is_sorted bytes_cmp (done ++ (x, v) ∷ es)) → find bytes_cmp x done ≡ None
new_name x v [] es sorted = refl
new_name x v (d ∷ ds) es sorted =
    grind (arith, sorted, below_last d.0 x v ds es, new_name x v ds es)

named_new : (x : List ℕ) (es : List (List ℕ × Option ℕ)) → find bytes_cmp x es ≡ None
    → length es < 64 → named x (made es) ≡ Ok (fin.insert (made es) x None)
named_new x es none few =
    let get : fin.get (made es) x ≡ None =
    get-from_entries nat_list_cmp_total es x ∙ none in
    let room : nat_le 64 (fin.len (made es)) ≡ false = grind (arith, nat_tests, few_made es, few) in
    rw (get, room) refl

pub itself : (x : List ℕ) → eq_by_cmp bytes_cmp x x ≡ true
itself x = grind (arith, nat_list_cmp_total.antisymm x x)

twice : (x : List ℕ) (n : ℕ) (m : NameMarks)
    → fin.insert (fin.insert m x None) x (Some n) ≡ fin.insert m x (Some n)
twice x n m = same_map nat_list_cmp_total exact _ _ (λ q.
    grind (
      arith,
      get-insert nat_list_cmp_total (fin.insert m x None) x (Some n) q,
      get-insert nat_list_cmp_total m x None q,
      get-insert nat_list_cmp_total m x (Some n) q,
    ))

pub marked_new : (x : List ℕ) (n : ℕ) (m : NameMarks)
    → with_mark x n (fin.insert m x None) ≡ fin.insert m x (Some n)
marked_new x n m =
    let there : fin.get (fin.insert m x None) x ≡ Some None =
    get-insert nat_list_cmp_total m x None x ∙ rw (itself x) refl in
    rw there (twice x n m)

counted_new : (x : List ℕ) (n : ℕ) (es : List (List ℕ × Option ℕ)) → find bytes_cmp x es ≡ None
    → length es < 64 → counted x n (made es) ≡ Ok (fin.insert (made es) x (Some n))
counted_new x n es none few = rw (named_new x es none few, marked_new x n (made es)) refl

marked_one : (x : List ℕ) (n : ℕ) (es : List (List ℕ × Option ℕ)) → find bytes_cmp x es ≡ None
    → length es < 64 → marked x n (made es) ≡ Ok (fin.insert (made es) x (Some n))
marked_one x n es none few =
    let there : fin.get (fin.insert (made es) x None) x ≡ Some None =
    get-insert nat_list_cmp_total (made es) x None x ∙ rw (itself x) refl in
    rw (named_new x es none few)
    (rw there (ap (λ (m : NameMarks). Ok m) (marked_new x n (made es))))

-- a name's entry, with the number that counts
abbrev counting_entry : NameMarks → List ℕ × Option ℕ → List ℕ × Option ℕ
counting_entry latest e = (e.0, counting_one e.1 (mark_of e.0 latest))

uncounted : (latest : NameMarks) (x : List ℕ) (es : List (List ℕ × Option ℕ))
    → find bytes_cmp x es ≡ None → find bytes_cmp x (counting_all latest es) ≡ None
uncounted latest x [] none = refl
uncounted latest x (e ∷ es) none = grind (arith, none, uncounted latest x es)

-- a name that is known already
pub named_there : (x : List ℕ) (v : Option ℕ) (m : NameMarks)
    → named x (fin.insert m x v) ≡ Ok (fin.insert m x v)
named_there x v m =
    let there : fin.get (fin.insert m x v) x ≡ Some v =
    get-insert nat_list_cmp_total m x v x ∙ rw (itself x) refl in
    rw there refl

again_inserted : (x : List ℕ) (v : Option ℕ) (n : ℕ) (m : NameMarks)
    → fin.insert (fin.insert m x v) x (Some n) ≡ fin.insert m x (Some n)
again_inserted x v n m = same_map nat_list_cmp_total exact _ _ (λ q.
    grind (
      arith,
      get-insert nat_list_cmp_total (fin.insert m x v) x (Some n) q,
      get-insert nat_list_cmp_total m x v q,
      get-insert nat_list_cmp_total m x (Some n) q,
    ))

pub counted_there : (x : List ℕ) (v : Option ℕ) (n : ℕ) (m : NameMarks)
    → counted x n (fin.insert m x v) ≡ Ok (fin.insert m x (Some n))
counted_there x v n m =
    let there : fin.get (fin.insert m x v) x ≡ Some v =
    get-insert nat_list_cmp_total m x v x ∙ rw (itself x) refl in
    rw (named_there x v m) (rw there (ap (λ (k : NameMarks). Ok k) (again_inserted x v n m)))

-- the name alone, whatever is counted
one_mark : (k : KeptParts) (a b : List (List ℕ × Option ℕ)) (x : List ℕ) (v : Option ℕ)
    → find bytes_cmp x a ≡ None → find bytes_cmp x b ≡ None → length a < 64 → length b < 64
    → after (name_record x v) (record k { marks = made a; marked = made b })
    ≡ Ok (record k { marks = fin.insert (made a) x v; marked = fin.insert (made b) x v })
one_mark k a b x None no_a no_b few_a few_b =
    rw (named_new x a no_a few_a, named_new x b no_b few_b) refl
one_mark k a b x (Some n) no_a no_b few_a few_b =
    rw (counted_new x n a no_a few_a, marked_one x n b no_b few_b) refl

-- and what its sessions were given
one_seen : (k : KeptParts) (a b : NameMarks) (x : List ℕ) (v s : Option ℕ)
    → after_each (seen_records x s)
    (record k { marks = fin.insert a x v; marked = fin.insert b x v })
    ≡ Ok (record k { marks = fin.insert a x (counting_one v s); marked = fin.insert b x v })
one_seen k a b x v None = refl
one_seen k a b x v (Some n) = rw (counted_there x v n a, named_there x v b) refl

one_name : (latest : NameMarks) (k : KeptParts) (es : List (List ℕ × Option ℕ)) (x : List ℕ)
    (v : Option ℕ) → find bytes_cmp x es ≡ None → length es < 64
    → after_each (name_record x v ∷ seen_records x (mark_of x latest)) (marking latest k es)
    ≡ Ok (marking latest k (es ++ (x, v) ∷ []))
one_name latest k es x v none few =
    let s = mark_of x latest in
    let counted = counting_all latest es in
    let none_too : find bytes_cmp x counted ≡ None = uncounted latest x es none in
    let few_too : length counted < 64 =
    omega (arith, few, length-map es (counting_entry latest)) in
    let whole : counting_all latest (es ++ (x, v) ∷ []) ≡ counted ++ (x, counting_one v s) ∷ [] =
    map-append (counting_entry latest) es ((x, v) ∷ []) in
    let more : made (es ++ (x, v) ∷ []) ≡ fin.insert (made es) x v =
    from_entries_push nat_list_cmp_total exact es x v none in
    let more_too : made (counted ++ (x, counting_one v s) ∷ [])
    ≡ fin.insert (made counted) x (counting_one v s) =
    from_entries_push nat_list_cmp_total exact counted x (counting_one v s) none_too in
    ap (then_after (after_each (seen_records x s)))
    (one_mark k counted es x v none_too none few_too few)
    ∙ one_seen k (made counted) (made es) x v s ∙ rw (whole, more, more_too) refl

names_again : (latest : NameMarks) (k : KeptParts) (done es : List (List ℕ × Option ℕ))
    → T (is_sorted bytes_cmp (done ++ es)) → length (done ++ es) ≤ 64
    → after_each (name_records latest es) (marking latest k done)
    ≡ Ok (marking latest k (done ++ es))
names_again latest k done [] sorted few =
    ap (λ (es : List (List ℕ × Option ℕ)). Ok (marking latest k es)) (sym (append-nil done))
names_again latest k done (e ∷ es) sorted few =
    let room : length done < 64 = omega (arith, few, length-append done (e ∷ es)) in
    let grouped : (done ++ e ∷ []) ++ es ≡ done ++ (e ∷ es) = append_assoc done (e ∷ []) es in
    after_two (name_record e.0 e.1 ∷ seen_records e.0 (mark_of e.0 latest))
    (name_records latest es) (marking latest k done) (marking latest k (done ++ e ∷ []))
    (one_name latest k done e.0 e.1 (new_name e.0 e.1 done es sorted) room)
    ∙ names_again latest k (done ++ e ∷ []) es
    (subst (λ (l : List (List ℕ × Option ℕ)). T (is_sorted bytes_cmp l)) (sym grouped) sorted)
    (subst (λ (l : List (List ℕ × Option ℕ)). length l ≤ 64) (sym grouped) few)
    ∙ ap (λ (l : List (List ℕ × Option ℕ)). Ok (marking latest k l)) grouped

made_of : (m : NameMarks) → made (fin.entries m) ≡ m
made_of m =
    same_map nat_list_cmp_total exact _ _ (λ q.
    get-from_entries nat_list_cmp_total (fin.entries m) q ∙ sym (get-entries m q))

-- ---- channels

pub channels_again : (k : KeptParts) (done cs : List (List ℕ × Option (List ℕ)))
    → after_each (channel_records cs) (record k { channels = done })
    ≡ Ok (record k { channels = done ++ cs })
channels_again k done [] =
    ap (λ (l : List (List ℕ × Option (List ℕ))). Ok (record k { channels = l }))
    (sym (append-nil done))
channels_again k done (c ∷ cs) =
    channels_again k (done ++ c ∷ []) cs
    ∙ ap (λ (l : List (List ℕ × Option (List ℕ))). Ok (record k { channels = l }))
    (append_assoc done (c ∷ []) cs)

-- ---- all of it

pub gives_back : (last : ℕ) (h : Messages) (marks latest : NameMarks)
    (channels : List (List ℕ × Option (List ℕ))) → CanComeAgain h → h.next ≡ Some last
    → AllByRecursion (λ m. m.0 < last) h.kept → last < 2 ^ 64 → fin.len marks ≤ 64
    → GivesBack (snapshot_of last h marks latest channels) last h marks latest channels
gives_back last h marks latest channels again is_next below small few capacity first low =
    let start = nothing capacity first in
    let held = holding start capacity (kept_of capacity h.kept) last in
    let names = fin.entries marks in
    let count : length names ≤ 64 = omega (arith, few, len-entries marks) in
    let told : after_each (name_records latest names) held ≡ Ok (marking latest held names) =
    names_again latest held [] names (entries_sorted marks) count in
    after_two (message_records h.kept last)
    (name_records latest names ++ channel_records channels) start held
    (all_messages capacity first last h.kept again.rise below small low)
    ∙ after_two (name_records latest names) (channel_records channels) held
    (marking latest held names) told
    ∙ channels_again (marking latest held names) [] channels
    ∙ rw (made_of marks, is_next) refl

-- ---- for the code

pub given_back : (records : List RecordParts) (last : ℕ) (h : Messages)
    (marks latest : NameMarks) (channels : List (List ℕ × Option (List ℕ)))
    → records ≡ snapshot_of last h marks latest channels → CanComeAgain h → h.next ≡ Some last
    → last < 2 ^ 64 → fin.len marks ≤ 64 → GivesBack records last h marks latest channels
given_back records last h marks latest channels is again is_next small few capacity first low =
    let below : AllByRecursion (λ (m : ℕ × EntryParts). m.0 < last) h.kept =
    rw is_next at again.below in
    ap (λ (rs : List RecordParts). after_each rs (nothing capacity first)) is
    ∙ gives_back last h marks latest channels again is_next below small few capacity first low

pub all_below : (ms : List (ℕ × Bor EntryParts)) (h : Messages) (last : ℕ)
    → map (λ (m : ℕ × Bor EntryParts). (m.0, m.1.now)) ms ≡ h.kept → CanComeAgain h
    → h.next ≡ Some last
    → AllByRecursion (λ (m : ℕ × EntryParts). m.0 < last)
    (map (λ (m : ℕ × Bor EntryParts). (m.0, m.1.now)) ms)
all_below ms h last is again is_next =
    let below : AllByRecursion (λ (m : ℕ × EntryParts). m.0 < last) h.kept =
    rw is_next at again.below in
    rw is below

-- the entry at a place, and none after the last
at_some : {X : Type 0} (es : List X) (i : ℕ) (e : X) → slice_get es i ≡ Some e
    → drop i es ≡ e ∷ drop (i + 1) es
at_some [] i e is = absurd cc
at_some (x ∷ es) zero e is = cc
at_some (x ∷ es) (suc i) e is =
    let place : suc i + 1 ≡ suc (i + 1) = omega arith in
    rw place (at_some es i e is)

at_end : {X : Type 0} (es : List X) (i : ℕ) → slice_get es i ≡ None
    → (drop i es ≡ []) × (drop (i + 1) es ≡ [])
at_end [] i is = (drop_all i [] (omega arith), drop_all (i + 1) [] (omega arith))
at_end (x ∷ es) zero is = absurd cc
at_end (x ∷ es) (suc i) is =
    let place : suc i + 1 ≡ suc (i + 1) = omega arith in
    let rest = at_end es i is in
    (rest.0, rw place rest.1)

pub name_here : (latest m : NameMarks) (i : ℕ) (x : List ℕ) (v : Option ℕ)
    → Some (x, v) ≡ slice_get (fin.entries m) i
    → name_records latest (drop i (fin.entries m))
    ≡ (name_record x v ∷ seen_records x (mark_of x latest))
    ++ name_records latest (drop (i + 1) (fin.entries m))
name_here latest m i x v is = ap (name_records latest) (at_some (fin.entries m) i (x, v) (sym is))

pub no_name_here : (latest m : NameMarks) (i : ℕ) → None ≡ slice_get (fin.entries m) i
    → name_records latest (drop i (fin.entries m))
    ≡ name_records latest (drop (i + 1) (fin.entries m))
no_name_here latest m i is =
    let none = at_end (fin.entries m) i (sym is) in
    ap (name_records latest) (none.0 ∙ sym none.1)

pub names_done : (latest m : NameMarks) (i : ℕ) → fin.len m ≤ i
    → name_records latest (drop i (fin.entries m)) ≡ []
names_done latest m i le =
    ap (name_records latest) (drop_all i (fin.entries m) (omega (arith, le, len-entries m)))

-- the records after a name's, of which these are the first
pub name_pushed : (old new : List Record) (r : Record) (n : RecordParts)
    (told : List RecordParts) (seen later all : List RecordParts) → new ≡ old ++ r ∷ []
    → record_parts r ≡ n → told ≡ parts_of_all new ++ seen → all ≡ (n ∷ seen) ++ later
    → told ++ later ≡ parts_of_all old ++ all
name_pushed old new r n told seen later all is same more here =
    let first : parts_of_all new ≡ parts_of_all old ++ n ∷ [] =
    ap parts_of_all is ∙ map-append record_parts old (r ∷ [])
    ∙ ap (λ (x : RecordParts). parts_of_all old ++ x ∷ []) same in
    ap (λ (rs : List RecordParts). rs ++ later) (more
    ∙ ap (λ (rs : List RecordParts). rs ++ seen) first
    ∙ append_assoc (parts_of_all old) (n ∷ []) seen)
    ∙ append_assoc (parts_of_all old) (n ∷ seen) later
    ∙ ap (λ (rs : List RecordParts). parts_of_all old ++ rs) (sym here)

-- ---- records one entry after another

module _ {X : Type 0} (f : X → List RecordParts) (es : List X) (i : ℕ) where
  pub one_here : (told old : List RecordParts) (e : X) → told ≡ old ++ f e
      → Some e ≡ slice_get es i
      → told ++ flat_map f (drop (i + 1) es) ≡ old ++ flat_map f (drop i es)
  one_here told old e is here =
      ap (λ (rs : List RecordParts). rs ++ flat_map f (drop (i + 1) es)) is
      ∙ append_assoc old (f e) (flat_map f (drop (i + 1) es))
      ∙ ap (λ (l : List X). old ++ flat_map f l) (sym (at_some es i e (sym here)))

  pub none_here : (old : List RecordParts) → None ≡ slice_get es i
      → old ++ flat_map f (drop (i + 1) es) ≡ old ++ flat_map f (drop i es)
  none_here old none =
      let ends = at_end es i (sym none) in
      ap (λ (l : List X). old ++ flat_map f l) (ends.1 ∙ sym ends.0)

  pub all_told : (told all : List RecordParts) → length es ≤ i
      → told ++ flat_map f (drop i es) ≡ all → told ≡ all
  all_told told all le is =
      sym (append-nil told)
      ∙ ap (λ (l : List X). told ++ flat_map f l) (sym (drop_all i es le)) ∙ is
