-- A batch of what changed, after what was written, gives what there is now.
use Rattle.std.proofs.Common.{◌≡◌, ◌∙◌, ◌+◌, ◌^◌, ◌<◌, ◌≤◌, ◌++◌, arith, ℕ, List, [], ◌∷◌, Option}
use Rattle.std.proofs.Common.{Some, Ok, Result, true, refl, sym, ap, subst, length}
use Rattle.std.specs.List.{enumerate_from}
use Rattle.std.specs.FinMap as fin
use Rattle.std.specs.Prelude.{IfOk}
use Rattle.history.specs.Entry.{EntryParts}
use Rattle.history.specs.Marks.{NameMarks}
use Rattle.history.specs.Messages.{Messages}
use Rattle.journal.proofs.Beginnings.{if_ok}
use Rattle.journal.proofs.Grown.{all_came, batch_does, last_is}
use Rattle.journal.proofs.NameChanges.{names_change}
use Rattle.journal.proofs.Snapshots.{after_two, channels_again, same_ok}
use Rattle.journal.specs.Changes.{Follows, IsUnchanged, Tells, TellsAt, TellsBy, WasWritten}
use Rattle.journal.specs.Changes.{batch_of, can_append, grown}
use Rattle.journal.specs.Changes.{kept_now, messages_from, name_changes, none_missing}
use Rattle.journal.specs.Kept.{KeptParts, after_batch, after_each}
use Rattle.journal.specs.Records.{RecordParts}
use Rattle.journal.specs.Snapshots.{channel_records, counting, message_records}
use Rattle.journal.specs.declared.changes.Changes.{Changes}
use Rattle.journal.specs.declared.changes.Changes.TheVariants as changes
use Rattle.journal.specs.declared.changes.Written.{Written}

abbrev Channels : Type 0
Channels = List (List ℕ × Option (List ℕ))

batch_follows : (w : Written) (k : KeptParts) (es : List EntryParts) (last : ℕ) (h : Messages)
    (marks latest : NameMarks) (channels : Channels) → WasWritten w k
    → h ≡ grown w.next es k.history → h.next ≡ Some last → last < 2 ^ 64 → fin.len marks ≤ 64
    → can_append w last h ≡ true
    → after_batch (batch_of w last h marks latest channels) k
    ≡ Ok (kept_now h marks latest channels)
batch_follows w k es last h marks latest channels was is now small few can =
    let none : none_missing w.next last h ≡ true = grind (arith, can) in
    let names = name_changes w.marks w.latest marks latest in
    let start = record k { channels = [] } in
    let grew = record start { history = grown w.next es k.history } in
    let named = record grew { marks = counting marks latest; marked = marks } in
    let came : messages_from w.next h ≡ enumerate_from w.next es =
    all_came w.next last es k.history h was.below was.number is now none in
    let count : last ≡ w.next + length es =
    last_is w.next last es k.history was.number (ap (λ (j : Messages). j.next) (sym is) ∙ now) in
    let messages : after_each (message_records (enumerate_from w.next es) last) start ≡ Ok grew =
    batch_does start w.next last es was.number count small in
    ap (λ (ms : List (ℕ × EntryParts)). after_each
    (message_records ms last ++ (names ++ channel_records channels)) start) came
    ∙ after_two (message_records (enumerate_from w.next es) last)
    (names ++ channel_records channels) start grew messages
    ∙ after_two names (channel_records channels) grew named
    (names_change w.marks w.latest marks latest grew was.marks was.marked few)
    ∙ channels_again named [] channels
    ∙ rw (← is) refl

no_messages_came : (n last : ℕ) (es : List EntryParts) (h : Messages) → last ≡ n
    → last ≡ n + length es → grown n es h ≡ h
no_messages_came n last [] h same count = refl
no_messages_came n last (e ∷ es) h same count = absurd (omega (arith, same, count))

nothing_follows : (w : Written) (k : KeptParts) (es : List EntryParts) (last : ℕ) (h : Messages)
    (marks latest : NameMarks) (channels : Channels) → WasWritten w k
    → h ≡ grown w.next es k.history → h.next ≡ Some last → fin.len marks ≤ 64
    → IsUnchanged w last marks latest channels → kept_now h marks latest channels ≡ k
nothing_follows w k es last h marks latest channels was is now few same =
    let count : last ≡ w.next + length es =
    last_is w.next last es k.history was.number (ap (λ (j : Messages). j.next) (sym is) ∙ now) in
    let history : h ≡ k.history = is ∙ no_messages_came w.next last es k.history same.number count
    in
    let named : k ≡ record k { marks = counting marks latest; marked = marks } =
    same_ok k (record k { marks = counting marks latest; marked = marks })
    (ap (λ (rs : List RecordParts). after_each rs k) (sym same.names)
    ∙ names_change w.marks w.latest marks latest k was.marks was.marked few) in
    let on : channels ≡ k.channels = sym same.same ∙ sym was.channels in
    let all : kept_now h marks latest channels
    ≡ record k { marks = counting marks latest; marked = marks } = rw (history, on) refl in
    all ∙ sym named

follows_at : (c : Changes) (w : Written) (k : KeptParts) (es : List EntryParts) (last : ℕ)
    (h : Messages) (marks latest : NameMarks) (channels : Channels) → WasWritten w k
    → h ≡ grown w.next es k.history → h.next ≡ Some last → last < 2 ^ 64 → fin.len marks ≤ 64
    → TellsAt c w last h marks latest channels → Follows c k (kept_now h marks latest channels)
follows_at changes.Nothing w k es last h marks latest channels was is now small few t =
    nothing_follows w k es last h marks latest channels was is now few t.1
follows_at (changes.Batch records) w k es last h marks latest channels was is now small few t =
    ap (λ (rs : List RecordParts). after_batch rs k) t.2
    ∙ batch_follows w k es last h marks latest channels was is now small few t.0
follows_at changes.Snapshot w k es last h marks latest channels was is now small few t = tt
follows_at changes.Spent w k es last h marks latest channels was is now small few t = tt

pub tells_then : {E : Type 0} (r : Result Changes E) (w : Written) (last : ℕ) (h : Messages)
    (marks latest : NameMarks) (channels : Channels) → h.next ≡ Some last
    → IfOk r (λ c. TellsAt c w last h marks latest channels)
    → IfOk r (λ c. Tells c w h marks latest channels)
tells_then r w last h marks latest channels now =
    if_ok r _ _ (λ c t.
    subst (λ (n : Option ℕ). TellsBy n c w h marks latest channels) (sym now) t)

pub follows_then : {E : Type 0} (r : Result Changes E) (w : Written) (last : ℕ) (h : Messages)
    (marks latest : NameMarks) (channels : Channels) → h.next ≡ Some last → last < 2 ^ 64
    → fin.len marks ≤ 64 → IfOk r (λ c. TellsAt c w last h marks latest channels)
    → (k : KeptParts) (es : List EntryParts) → WasWritten w k → h ≡ grown w.next es k.history
    → IfOk r (λ c. Follows c k (kept_now h marks latest channels))
follows_then r w last h marks latest channels now small few tells k es was is =
    if_ok r _ _ (λ c t.
    follows_at c w k es last h marks latest channels was is now small few t) tells
