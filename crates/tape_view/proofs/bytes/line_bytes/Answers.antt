use Rattle.std.proofs.Common.{arith, refl}
use Rattle.tape_view.proofs.TapeBytes.{params_more}
use Rattle.tape_view.proofs.bytes.line_bytes.Goals as goal
use Rattle.tape_view.specs.Weights.{line_bytes}

pub loop-param-init : goal.loop-param-init
unfolding line_bytes
loop-param-init g c =
    let tags = c.with_part-bytes.ensures 0 refl in
    let source = c.with_part-bytes-2.ensures _ tags in (
      _,
      c.with_text-bytes.ensures _ source,
      rw (
        c.tags.ensures,
        c.source.ensures,
        c.command.ensures.value,
        c.into_iter-param-iterator.ensures.into_iter_gives,
        c.params-param-items.ensures,
      ) (omega arith),
    )

pub loop-param-preserved : goal.loop-param-preserved
loop-param-preserved g c =
    let before = c.loop-param.invariant in
    let step = params_more c.in-Some.param.now c.next.new.self in
    let left = rw (c.in-Some.ensures.steps) at before.2 in
    (_, c.with_text-bytes-in-loop-param.ensures _ before.1, omega (arith, step, left))
