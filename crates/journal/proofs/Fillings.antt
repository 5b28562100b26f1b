-- Records that are written as several batches do the same.
use Rattle.std.proofs.Common.{◌≡◌, ◌∙◌, ◌++◌, ◌&&◌, arith, ℕ, Bool, List, [], ◌∷◌, Option, Some, None}
use Rattle.std.proofs.Common.{Result, Ok, Err, true, false, refl, sym, ap, subst}
use Rattle.std.specs.Prelude.{IfOk, IfSome, Vec, nat_le, not}
use Rattle.std.specs.declared.alloc.Global.{Global}
use Rattle.std.proofs.lemmas.Bool.Decides.{nat_tests}
use Rattle.std.proofs.lemmas.List.{map-append}
use Rattle.history.specs.Entry.{EntryParts}
use Rattle.history.specs.Marks.{NameMarks}
use Rattle.history.specs.Messages.{Messages, number_after}
use Rattle.journal.proofs.InParts.{one_same, without}
use Rattle.journal.proofs.Snapshots.{after_two, same_ok}
use Rattle.journal.specs.Fillings.{Leaves, batches_of, is_on, next_after, texts_of}
use Rattle.journal.specs.Kept.{KeptParts, after, after_all, after_batch, after_each, then_after}
use Rattle.journal.specs.Kept.{skipped, with_history, with_names, with_next}
use Rattle.journal.specs.Records.{RecordParts, gone, mark, message, name, next, on, parts_of_all, seen}
use Rattle.journal.specs.Records.{record_parts}
use Rattle.journal.specs.Snapshots.{IsNoChannel}
use Rattle.journal.specs.declared.batching.Filling.{Filling}
use Rattle.journal.specs.declared.damage.Damage.{Damage}
use Rattle.journal.specs.declared.record.Record.{Record}

abbrev Batches : Type 0
Batches = List (List RecordParts)

-- ---- one batch more, and one record more

then_last : (bs : Batches) (b : List RecordParts) (j : KeptParts) (r : Result KeptParts Damage)
    → then_after (after_all bs) r ≡ Ok j
    → ((k : KeptParts) → after_all bs k ≡ Ok j → after_all (bs ++ b ∷ []) k ≡ after_batch b j)
    → then_after (after_all (bs ++ b ∷ [])) r ≡ after_batch b j
then_last bs b j (Ok k) e go = go k e
then_last bs b j (Err d) e go = absurd cc

then_none : (r : Result KeptParts Damage) → then_after (after_all []) r ≡ r
then_none (Ok k) = refl
then_none (Err d) = refl

batch_more : (bs : Batches) (b : List RecordParts) (k j : KeptParts) → after_all bs k ≡ Ok j
    → after_all (bs ++ b ∷ []) k ≡ after_batch b j
batch_more [] b k j e = then_none (after_batch b k) ∙ ap (after_batch b) (same_ok k j e)
batch_more (c ∷ bs) b k j e =
    then_last bs b j (after_batch c k) e (λ m done. batch_more bs b m j done)

then_split : (bs : Batches) (b : List RecordParts) (j : KeptParts) (r : Result KeptParts Damage)
    → then_after (after_all (bs ++ b ∷ [])) r ≡ Ok j
    → ((k : KeptParts) → after_all (bs ++ b ∷ []) k ≡ Ok j
    → (m : KeptParts) × (after_all bs k ≡ Ok m) × (after_batch b m ≡ Ok j))
    → (m : KeptParts) × (then_after (after_all bs) r ≡ Ok m) × (after_batch b m ≡ Ok j)
then_split bs b j (Ok k) e go = go k e
then_split bs b j (Err d) e go = absurd cc

last_split : (bs : Batches) (b : List RecordParts) (k j : KeptParts)
    → after_all (bs ++ b ∷ []) k ≡ Ok j
    → (m : KeptParts) × (after_all bs k ≡ Ok m) × (after_batch b m ≡ Ok j)
last_split [] b k j e = (k, refl, sym (then_none (after_batch b k)) ∙ e)
last_split (c ∷ bs) b k j e =
    then_split bs b j (after_batch c k) e (λ m done. last_split bs b m j done)

record_more : (bs : Batches) (b : List RecordParts) (r : RecordParts) (k i j : KeptParts)
    → after_all (bs ++ b ∷ []) k ≡ Ok i → after r i ≡ Ok j
    → after_all (bs ++ (b ++ r ∷ []) ∷ []) k ≡ Ok j
record_more bs b r k i j before one =
    let s = last_split bs b k i before in
    batch_more bs (b ++ r ∷ []) k s.0 s.1
    ∙ after_two b (r ∷ []) (record s.0 { channels = [] }) i s.2
    ∙ ap (then_after (after_each [])) one

-- ---- what is noted

no_channel : (r : RecordParts) → is_on r ≡ false → IsNoChannel r
no_channel (next n) e = tt
no_channel (message e) is = tt
no_channel (name x) e = tt
no_channel (mark x n) e = tt
no_channel (seen x n) e = tt
no_channel (gone x) e = tt
no_channel (on channel key) e = absurd cc

channels_stay : (r : RecordParts) (i j : KeptParts) → is_on r ≡ false → after r i ≡ Ok j
    → j.channels ≡ i.channels
channels_stay r i j none one =
    subst (λ (s : Result KeptParts Damage). IfOk s (λ m. m.channels ≡ i.channels)) one
    (one_same r i (no_channel r none))

skipped_next : (n : ℕ) (o : Option ℕ) (h : Messages)
    → IfOk (skipped n o h) (λ g. g.next ≡ Some n)
skipped_next n None h = tt
skipped_next n (Some low) h = grind (arith, nat_tests)

history_next : (k : KeptParts) (o : Option ℕ) (r : Result Messages Damage)
    → IfOk r (λ h. h.next ≡ o) → IfOk (with_history k r) (λ j. j.history.next ≡ o)
history_next k o (Ok h) is = is
history_next k o (Err d) is = tt

names_next : (k : KeptParts) (r s : Result NameMarks Damage)
    → IfOk (with_names k r s) (λ j. j.history.next ≡ k.history.next)
names_next k (Ok m) (Ok n) = refl
names_next k (Ok m) (Err d) = tt
names_next k (Err d) s = tt

message_next : (e : EntryParts) (n : ℕ) (h : Messages)
    → IfOk (with_next e (Some n) h) (λ g. g.next ≡ number_after n)
message_next e n h = grind (arith, nat_tests)

some_next : (o : Option ℕ) (j : KeptParts) → j.history.next ≡ o
    → IfSome o (λ n. j.history.next ≡ Some n)
some_next None j e = tt
some_next (Some n) j e = e

of_ok : (r : Result KeptParts Damage) (j : KeptParts) (P : KeptParts → Type 0) → r ≡ Ok j
    → IfOk r P → P j
of_ok r j P is all = subst (λ (s : Result KeptParts Damage). IfOk s P) is all

same_next : (r : RecordParts) (o : Option ℕ) (i j : KeptParts)
    → IfSome o (λ n. i.history.next ≡ Some n) → after r i ≡ Ok j
    → IfOk (after r i) (λ m. m.history.next ≡ i.history.next)
    → IfSome o (λ n. j.history.next ≡ Some n)
same_next r None i j before one same = tt
same_next r (Some n) i j before one same =
    of_ok (after r i) j (λ m. m.history.next ≡ i.history.next) one same ∙ before

number_on : (r : RecordParts) (o : Option ℕ) (i j : KeptParts)
    → IfSome o (λ n. i.history.next ≡ Some n) → after r i ≡ Ok j
    → IfSome (next_after r o) (λ n. j.history.next ≡ Some n)
number_on (next n) o i j before one =
    of_ok (after (next n) i) j (λ m. m.history.next ≡ Some n) one
    (history_next i (Some n) _ (skipped_next n i.history.next i.history))
number_on (message e) None i j before one = tt
number_on (message e) (Some n) i j before one =
    some_next (number_after n) j
    (of_ok (after (message e) i) j (λ m. m.history.next ≡ number_after n) one
    (history_next i (number_after n) _
    (subst (λ (o : Option ℕ). IfOk (with_next e o i.history) (λ g. g.next ≡ number_after n))
    (sym before) (message_next e n i.history))))
number_on (name x) o i j before one = same_next (name x) o i j before one (names_next i _ _)
number_on (mark x n) o i j before one = same_next (mark x n) o i j before one (names_next i _ _)
number_on (seen x n) o i j before one = same_next (seen x n) o i j before one (names_next i _ _)
number_on (gone x) o i j before one = same_next (gone x) o i j before one refl
number_on (on channel key) o i j before one =
    same_next (on channel key) o i j before one refl

-- ---- for the code

and_true : (a b : Bool) → (a && not b) ≡ true → (a ≡ true) × (b ≡ false)
and_true true false e = (refl, refl)
and_true true true e = absurd cc
and_true false b e = absurd cc

pushed : (f g : Filling) (r : RecordParts) (k i j : KeptParts)
    → batches_of g ≡ texts_of f.whole.items ++ (parts_of_all f.batch.items ++ r ∷ []) ∷ []
    → g.next ≡ next_after r f.next → g.is_open ≡ (f.is_open && not (is_on r)) → Leaves f k i
    → after r i ≡ Ok j → Leaves g k j
pushed f g r k i j are number opens l one = record {
  after = ap (λ (bs : Batches). after_all bs k) are
      ∙ record_more (texts_of f.whole.items) (parts_of_all f.batch.items) r k i j l.after one;
  number = subst (λ (o : Option ℕ). IfSome o (λ n. j.history.next ≡ Some n)) (sym number)
      (number_on r f.next i j l.number one);
  no_channels = λ e.
      let both = and_true f.is_open (is_on r) (sym opens ∙ e) in
      channels_stay r i j both.1 one ∙ l.no_channels both.0;
}

ended : (f g : Filling) (n : ℕ) (k j : KeptParts) → f.next ≡ Some n → f.is_open ≡ true
    → batches_of g ≡ batches_of f ++ (next n ∷ []) ∷ [] → g.next ≡ f.next
    → g.is_open ≡ f.is_open → Leaves f k j → Leaves g k j
ended f g n k j is opens are number same l =
    let none : j.channels ≡ [] = l.no_channels opens in
    let at : j.history.next ≡ Some n =
    subst (λ (o : Option ℕ). IfSome o (λ m. j.history.next ≡ Some m)) is l.number in
    let low : nat_le n n ≡ true = grind (arith, nat_tests) in
    let here : record j { history = record j.history { next = Some n } } ≡ j =
    ap (λ (o : Option ℕ). record j { history = record j.history { next = o } }) (sym at) in
    let one : after (next n) j ≡ Ok j =
    ap (λ (o : Option ℕ). with_history j (skipped n o j.history)) at
    ∙ rw low (ap (λ (m : KeptParts). Ok m) here) in
    record {
      after = ap (λ (bs : Batches). after_all bs k) are
          ∙ batch_more (batches_of f) (next n ∷ []) k j l.after
          ∙ ap (after_each (next n ∷ [])) (without j none)
          ∙ ap (then_after (after_each [])) one;
      number = subst (λ (o : Option ℕ). IfSome o (λ m. j.history.next ≡ Some m)) (sym number)
          l.number;
      no_channels = λ e. l.no_channels (sym same ∙ e);
    }

pub pushed_by : (f g : Filling) (item : Record) → g.whole.items ≡ f.whole.items
    → g.batch.items ≡ f.batch.items ++ item ∷ [] → g.next ≡ next_after (record_parts item) f.next
    → g.is_open ≡ (f.is_open && not (is_on (record_parts item))) → (k i j : KeptParts)
    → Leaves f k i → after (record_parts item) i ≡ Ok j → Leaves g k j
pushed_by f g item whole batch number opens k i j l one =
    let told : parts_of_all g.batch.items ≡ parts_of_all f.batch.items ++ record_parts item ∷ [] =
    ap parts_of_all batch ∙ map-append record_parts f.batch.items (item ∷ []) in
    let are : batches_of g
    ≡ texts_of f.whole.items ++ (parts_of_all f.batch.items ++ record_parts item ∷ []) ∷ [] =
    ap (λ (ws : List (Vec Record Global)). texts_of ws ++ parts_of_all g.batch.items ∷ []) whole
    ∙ ap (λ (b : List RecordParts). texts_of f.whole.items ++ b ∷ []) told in
    pushed f g (record_parts item) k i j are number opens l one

pub ended_by : (f g : Filling) (n : ℕ) → g.whole.items ≡ f.whole.items ++ f.batch ∷ []
    → parts_of_all g.batch.items ≡ next n ∷ [] → g.next ≡ f.next → g.is_open ≡ f.is_open
    → f.next ≡ Some n → f.is_open ≡ true → (k j : KeptParts) → Leaves f k j → Leaves g k j
ended_by f g n whole batch number same is opens k j l =
    let told : texts_of g.whole.items ≡ batches_of f =
    ap texts_of whole
    ∙ map-append (λ (b : Vec Record Global). parts_of_all b.items) f.whole.items (f.batch ∷ []) in
    let are : batches_of g ≡ batches_of f ++ (next n ∷ []) ∷ [] =
    ap (λ (bs : Batches). bs ++ parts_of_all g.batch.items ∷ []) told
    ∙ ap (λ (b : List RecordParts). batches_of f ++ b ∷ []) batch in
    ended f g n k j is opens are number same l

-- ---- all records

pub begun : (f : Filling) (rs : List RecordParts) → f.whole.items ≡ [] → f.batch.items ≡ []
    → f.next ≡ None → (k kept : KeptParts) → k.channels ≡ [] → after_batch rs k ≡ Ok kept
    → (j : KeptParts) × Leaves f k j × (after_each rs j ≡ Ok kept)
begun f rs whole batch number k kept none done =
    let are : batches_of f ≡ [] ∷ [] =
    ap (λ (ws : List (Vec Record Global)). texts_of ws ++ parts_of_all f.batch.items ∷ []) whole
    ∙ ap (λ (b : List Record). parts_of_all b ∷ []) batch in (
      k,
      record {
        after = ap (λ (bs : Batches). after_all bs k) are
            ∙ ap (λ (m : KeptParts). Ok m) (without k none);
        number = subst (λ (o : Option ℕ). IfSome o (λ n. k.history.next ≡ Some n)) (sym number) tt;
        no_channels = λ e. none;
      },
      ap (after_each rs) (sym (without k none)) ∙ done,
    )

then_on : (rs : List RecordParts) (kept : KeptParts) (r : Result KeptParts Damage)
    → then_after (after_each rs) r ≡ Ok kept
    → (j : KeptParts) × (r ≡ Ok j) × (after_each rs j ≡ Ok kept)
then_on rs kept (Ok j) e = (j, refl, e)
then_on rs kept (Err d) e = absurd cc

pub goes_on : (f g : Filling) (r : RecordParts) (rs : List RecordParts) (k kept : KeptParts)
    → ((k i j : KeptParts) → Leaves f k i → after r i ≡ Ok j → Leaves g k j)
    → ((j : KeptParts) × Leaves f k j × (after_each (r ∷ rs) j ≡ Ok kept))
    → (j : KeptParts) × Leaves g k j × (after_each rs j ≡ Ok kept)
goes_on f g r rs k kept step here =
    let s = then_on rs kept (after r here.0) here.2 in
    (s.0, step k here.0 s.0 here.1 s.1, s.2)
