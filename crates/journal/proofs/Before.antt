-- A hub can go on from what was kept.
use Rattle.std.proofs.Common.{◌≡◌, ◌<◌, ◌≤◌, ◌+◌, ◌^◌, ℕ, List, [], ◌∷◌, Option, Some, Result, Ok}
use Rattle.std.proofs.Common.{Err, refl, sym, ap, subst, arith, inl, inr, Bool, true, ltb, ◌∙◌}
use Rattle.std.specs.Prelude.{IfOk, IsTrue}
use Rattle.std.specs.List.{AllByRecursion}
use Rattle.std.proofs.lemmas.Bool.{lt-ltb}
use Rattle.std.proofs.lemmas.Bool.Decides.{nat_tests}
use Rattle.history.proofs.LastMessages.{all_kept}
use Rattle.history.specs.Entry.{EntryParts, IsWrittenEntry, is_message_command}
use Rattle.history.specs.Marks.{NameMarks}
use Rattle.history.specs.Messages.{AreKeptBefore, Messages, no_messages, with_message}
use Rattle.journal.proofs.Capacities.{lower}
use Rattle.journal.specs.Kept.{KeptParts, after, after_each, skipped, then_after, with_history}
use Rattle.journal.specs.Kept.{with_names, with_next}
use Rattle.journal.specs.Records.{AreSound, IsRight, IsSound, RecordParts, gone, mark, message}
use Rattle.journal.specs.Records.{name, next, on, seen}
use Rattle.journal.specs.Recalls.{CanBegin, RecallsFile, Takes, TakesAll}
use Rattle.journal.specs.declared.damage.Damage.{Damage}

none_kept : (capacity first : ℕ) → CanBegin (no_messages capacity first)
none_kept capacity first = (first, record { messages = tt; written = tt; below = tt; next = refl })

can_message : (first : ℕ) (e : EntryParts) (h : Messages) → AreKeptBefore first h → first + 1 < 2 ^ 64
    → IsRight (message e) → CanBegin (with_message first e h)
can_message first e h b small right =
    let less : AllByRecursion (λ (m : ℕ × EntryParts). m.0 < first + 1) h.kept =
    lower first (first + 1) (omega arith) h.kept b.below in
    let more : ltb (first + 1) (2 ^ 64) ≡ true = lt-ltb _ _ small in (
      first + 1,
      record {
        messages = all_kept (λ m. IsTrue (is_message_command m.1.command)) h first e b.messages right.1;
        written = all_kept (λ m. IsWrittenEntry m.1) h first e b.written right.0;
        below = all_kept (λ m. m.0 < first + 1) h first e less (omega arith);
        next = rw more refl;
      },
    )

can_skip : (n first : ℕ) (h : Messages) → AreKeptBefore first h → first ≤ n
    → CanBegin (record h { next = Some n })
can_skip n first h b le =
    (n, record { messages = b.messages; written = b.written; below = lower first n le h.kept b.below; next = refl })

-- ---- one record

skip_begins : (n first : ℕ) (h : Messages) → AreKeptBefore first h
    → IfOk (skipped n h.next h) CanBegin
skip_begins n first h b = rw b.next (grind (arith, nat_tests, can_skip n first h b))

next_begins : (e : EntryParts) (first : ℕ) (h : Messages) → AreKeptBefore first h
    → IsRight (message e) → IfOk (with_next e h.next h) CanBegin
next_begins e first h b right =
    let can : first + 1 < 2 ^ 64 → CanBegin (with_message first e h) = λ small. can_message first e h b small right in
    rw b.next (grind (arith, nat_tests, can))

history_on : (k : KeptParts) (r : Result Messages Damage) → IfOk r CanBegin
    → IfOk (with_history k r) (λ n. CanBegin n.history)
history_on k (Ok h) can = can
history_on k (Err d) can = tt

names_on : (k : KeptParts) (r s : Result NameMarks Damage) → CanBegin k.history
    → IfOk (with_names k r s) (λ n. CanBegin n.history)
names_on k (Ok m) (Ok n) can = can
names_on k (Ok m) (Err d) can = tt
names_on k (Err d) s can = tt

begins_after : (r : RecordParts) (k : KeptParts) → IsSound r → CanBegin k.history
    → IfOk (after r k) (λ n. CanBegin n.history)
begins_after (next n) k s can = history_on k _ (skip_begins n can.0 k.history can.1)
begins_after (message e) k s can = history_on k _ (next_begins e can.0 k.history can.1 s.right)
begins_after (name x) k s can = names_on k _ _ can
begins_after (mark x n) k s can = names_on k _ _ can
begins_after (seen x n) k s can = names_on k _ _ can
begins_after (gone x) k s can = can
begins_after (on channel key) k s can = can

-- ---- many

then_begins : (f : KeptParts → Result KeptParts Damage) (r : Result KeptParts Damage)
    → IfOk r (λ n. CanBegin n.history)
    → ((k : KeptParts) → CanBegin k.history → IfOk (f k) (λ n. CanBegin n.history))
    → IfOk (then_after f r) (λ n. CanBegin n.history)
then_begins f (Ok k) can go = go k can
then_begins f (Err d) can go = tt

begins_each : (rs : List RecordParts) (k : KeptParts) → AreSound rs → CanBegin k.history
    → IfOk (after_each rs k) (λ n. CanBegin n.history)
begins_each [] k s can = can
begins_each (r ∷ rs) k s can =
    then_begins (after_each rs) (after r k) (begins_after r k s.0 can) (λ m. begins_each rs m s.1)

begins_takes : (p : List ℕ) (a b : KeptParts) → Takes p a b → CanBegin a.history
    → CanBegin b.history
begins_takes p a b t can =
    subst (λ (r : Result KeptParts Damage). IfOk r (λ n. CanBegin n.history)) t.2
    (begins_each t.0 (record a { channels = [] }) t.1.0 can)

begins_all : (ps : List (List ℕ)) (a b : KeptParts) → TakesAll ps a b → CanBegin a.history
    → CanBegin b.history
begins_all [] a b t can = subst (λ (k : KeptParts). CanBegin k.history) (sym t) can
begins_all (p ∷ ps) a b t can = begins_all ps t.0 b t.2 (begins_takes p a t.0 t.1 can)

pub begins : (capacity first : ℕ) (bytes : List ℕ) (rings : Bool) (n used : ℕ)
    (d : Option Damage) (start kept : KeptParts) → start.history ≡ no_messages capacity first
    → RecallsFile start bytes rings n used d kept → CanBegin kept.history
begins capacity first bytes rings n used d start kept is (inl r) =
    begins_all r.recalls.recalled.front start kept r.recalls.recalled.took
    (subst CanBegin (sym is) (none_kept capacity first))
begins capacity first bytes rings n used d start kept is (inr r) =
    subst CanBegin (sym (ap (λ (k : KeptParts). k.history) r.start_kept ∙ is))
    (none_kept capacity first)
