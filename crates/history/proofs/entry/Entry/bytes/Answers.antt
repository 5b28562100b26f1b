use Rattle.history.proofs.entry.Entry.bytes.Goals as goal
use Rattle.history.proofs.Weights.{bytes_at}
use Rattle.std.proofs.Common.{arith, length, refl}
use Rattle.weights.specs.Costs.{entry_cost}

pub returns : goal.returns
returns g c =
    let size = length c.self.inside.texts.items in
    let sum = c.more.ensures entry_cost size refl (omega (arith, c.len.ensures, c.len.type_inv)) in
    rw (← c.self.view_is, bytes_at _ _ _ _ _ _ c.self.invariant) sum
