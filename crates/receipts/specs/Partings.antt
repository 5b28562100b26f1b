-- How a session is left.
use Rattle.std.specs.Prelude.{Bool, List, None, Some, true, false, if◌then◌else◌, ℕ, Option}
use Rattle.receipts.specs.Notes.{received_by}
use Rattle.receipts.specs.declared.note.Note.{Note}
use Rattle.receipts.specs.declared.parting.End.{End}
use Rattle.receipts.specs.declared.parting.End.TheVariants as end
use Rattle.receipts.specs.declared.parting.Left.{Left}
use Rattle.receipts.specs.declared.parting.Left.TheVariants as left
use Rattle.receipts.specs.declared.parting.Parting.{Parting}

-- a session that ended so may have lost what was written to it
abbrev pub is_fault : End → Bool → Bool
is_fault end.Quit is_proxied = false
is_fault end.Ordered is_proxied = false
is_fault end.Closed is_proxied = is_proxied
is_fault end.GivenUp is_proxied = is_proxied
is_fault end.Fault is_proxied = true

-- by its notes: what was written this much earlier than the client was heard last, if it is one
-- that is heard
abbrev pub left_at : Option ℕ → ℕ → List Note → Left
left_at None margin notes = left.All
left_at (Some heard) margin notes = left.UpTo (received_by heard margin notes)

abbrev pub left_by : Parting → List Note → Left
left_by p notes =
    if is_fault p.end p.is_proxied then left_at p.heard p.margin notes else left.All
