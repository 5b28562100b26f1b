use Rattle.history.proofs.kept.Kept.push.Goals as goal
use Rattle.history.proofs.{Rings.insert-last, Weights.bytes_more}
use Rattle.history.specs.Weights.{entry_bytes, kept_bytes}

pub invariant_of-self-2 : goal.invariant_of-self-2
invariant_of-self-2 g c =
    let kept = c.self.inside.messages.entries in
    let last = insert-last kept c.args.number c.args.entry (rw c.self.view_is c.requires) in
    rw (c.in_ok-insert.ensures.entries, last, bytes_more kept c.args.number c.args.entry)
    (c.more-self-inside.ensures (kept_bytes kept) (entry_bytes c.args.entry) c.self.invariant
    c.bytes-bytes.ensures)

pub returns-clause-ok : goal.returns-clause-ok
returns-clause-ok g c =
    rw (c.in_ok-insert.ensures.entries, c.self.view_is)
    (insert-last c.args.self.now c.args.number c.args.entry c.requires)
