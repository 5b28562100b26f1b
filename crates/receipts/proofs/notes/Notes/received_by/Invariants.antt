use Rattle.std.proofs.Common.{◌≡◌, drop}
use Rattle.std.specs.Option.{option_or}
use Rattle.receipts.specs.Notes.{received_by}
use Rattle.receipts.proofs.notes.Notes.received_by.Given as goal

abbrev pub invariant-loop-note : goal.invariant-loop-note
invariant-loop-note l =
    option_or (received_by l.heard l.margin (drop l.note-index l.note-items)) l.received
    ≡ received_by l.heard l.margin l.note-items
