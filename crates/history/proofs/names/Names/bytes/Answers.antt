use Rattle.history.proofs.names.Names.bytes.Goals as goal
use Rattle.history.proofs.Weights.{listed_bytes, listed_more, marks_listed}
use Rattle.history.specs.{Named.named}
use Rattle.std.proofs.Common.{ap, arith, length, refl, ◌+◌}
use Rattle.weights.specs.Costs.{name_cost}

pub loop-name-init : goal.loop-name-init
loop-name-init g c =
    let all = marks_listed c.self.inside.tree.entries c.self.invariant in (
      0,
      refl,
      rw (
        c.into_iter-name-iterator.ensures.into_iter_gives,
        c.iter-name-items.ensures.rest,
        ← c.self.view_is,
      ) (omega (arith, all)),
    )

pub loop-name-preserved : goal.loop-name-preserved
loop-name-preserved g c =
    let so_far = c.loop-name.invariant in
    let name = c.in-Some.name.now.items in
    let size = length name in
    let one = c.more.ensures name_cost size refl (omega (arith, c.len.ensures, c.len.type_inv)) in
    let first = listed_more (name, c.in-Some.field-0-1.now) (named c.next.new.self) in
    let before = ap (λ es. listed_bytes (named es)) c.in-Some.ensures.steps in (
      so_far.0 + (name_cost + size),
      c.more-bytes.ensures so_far.0 (name_cost + size) so_far.1 one,
      omega (arith, so_far.2, before, first),
    )
