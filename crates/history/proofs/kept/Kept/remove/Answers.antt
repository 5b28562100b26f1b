use Rattle.history.proofs.kept.Kept.remove.Goals as goal
use Rattle.history.proofs.Weights.{bytes_less}
use Rattle.history.specs.{Rings.taken, Weights.{entry_bytes, kept_bytes}}
use Rattle.std.proofs.Common.{refl, ◌∙◌}

pub invariant_of-self : goal.invariant_of-self
invariant_of-self g c =
    let kept = c.self.inside.messages.entries in
    let message = c.in-Some.message in
    let sum = bytes_less kept c.args.number message c.in-Some.ensures.value in
    rw c.remove.ensures.entries
    (c.less-self-inside.ensures (kept_bytes (taken c.args.number kept)) (entry_bytes message)
    (c.self.invariant ∙ rw sum refl) c.bytes.ensures)
