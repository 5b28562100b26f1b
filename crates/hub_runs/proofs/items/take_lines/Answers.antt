use Rattle.hub_runs.proofs.items.take_lines.Goals as goal
use Rattle.hub_runs.proofs.Course.{◌+◌, ◌∙◌, ◌∷◌, ◌≡◌, Came, List, Parts, Received, [], ap}
use Rattle.hub_runs.proofs.Course.{append_assoc, arith, length, map, map-append, takes_more, ℕ}
use Rattle.std.specs.Vec.Iter.{drain_items}

abbrev came_at : ℕ → List Parts → List Came
came_at moment lines = map (λ line. (Received line, moment)) lines

pub loop-line-preserved : goal.loop-line-preserved
loop-line-preserved g c =
    let step = c.in-Some.ensures.steps in
    let so = c.loop-line.invariant in
    let done = c.loop-line.yielded in
    let left : length (drain_items c.loop-line.line-iterator)
    ≡ 1 + length (drain_items c.next.new.self) = ap length step.0 ∙ omega arith in
    let room = so.4 in
    let p = c.push_reserved.ensures in
    let took = takes_more (came_at c.args.moment.0 done) c.loop-line.pumped.items _ _ _ _ _ so.5
    c.in-Ok.ensures.ok in
    let more = map-append {B = Came} (λ line. (Received line, c.args.moment.0)) done in (
      tt,
      tt,
      (step.2.0 ∙ so.2.0, step.2.1 ∙ so.2.1, step.2.2 ∙ so.2.2),
      rw (append_assoc, ← step.0) so.3,
      omega arith,
      rw (p.items, more (c.in-Some.line ∷ [])) took,
    )

pub returns-in-Err-clause-err : goal.returns-in-Err-clause-err
returns-in-Err-clause-err g c =
    let done = c.loop-line.yielded in
    let came = came_at c.args.moment.0 in
    let rest = drain_items c.next.new.self in (
      came done,
      record {
        pumped = c.loop-line.pumped.items;
        next = (Received c.in-Some.line, c.args.moment.0);
        later = came rest;
        are = rw (← c.loop-line.invariant.3, c.in-Some.ensures.steps.0)
            (map-append _ done (c.in-Some.line ∷ rest));
        hub = c.loop-line.hub;
        took = c.loop-line.invariant.5;
        refuses = c.in-Err.ensures.err;
      },
    )
