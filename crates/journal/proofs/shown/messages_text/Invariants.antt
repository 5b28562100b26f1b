use Rattle.std.proofs.Common.{◌≡◌, ◌++◌, ℕ, Bor, map}
use Rattle.std.specs.List.{flat_map}
use Rattle.history.specs.Entry.{EntryParts}
use Rattle.journal.specs.Shown.{line_of, text_of_messages}
use Rattle.journal.proofs.shown.messages_text.Given as goal

abbrev pub invariant-loop-item : goal.invariant-loop-item
invariant-loop-item l =
    l.text.items
    ++ flat_map (λ (m : ℕ × EntryParts). line_of m.1)
    (map (λ (m : ℕ × Bor EntryParts). (m.0, m.1.now)) l.item-iterator.rest.items)
    ≡ text_of_messages l.history
