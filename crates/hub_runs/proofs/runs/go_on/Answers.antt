use Rattle.hub_runs.proofs.runs.go_on.Goals as goal
use Rattle.hub_runs.proofs.Course.{◌+◌, ◌<◌, ◌∙◌, ◌≡◌, ap, arith, happen_more, length, ran_part}
use Rattle.hub_runs.{proofs.Course.{ran_whole, refl, stands_at}, specs.Worlds.{outlets_of}}
use Rattle.std.proofs.{Common.{vec_capacity, vec_len}, lemmas.List.take_more}

pub loop-event-init : goal.loop-event-init
loop-event-init g c =
    let none : vec_len c.args.world.replies ≡ 0 = c.args.world.replies.ok.0 ∙ ap length c.requires.none in
    let room = c.requires.room in
    record { count = refl; room = omega arith; so_far = rw c.requires.none refl }

pub returns-in-Err : goal.returns-in-Err
returns-in-Err g c = λ b profile history first marks channels session up few can same.
    let inv = c.loop-event.invariant in
    let err = c.in-Err.ensures.err in
    rw c.apply.ensures.replies
    (ran_part b _ _ _ _ _ _ (stands_at b profile history first marks channels session up few can _ _ _ _ same inv.so_far)
    c.loop-event.event-index _ c.in-Err.stop err.0 inv.count (omega arith) c.event-item.is err.1
    (ap outlets_of err.2) c.in-Err.ensures.rest)

pub loop-event-preserved : goal.loop-event-preserved
loop-event-preserved g c =
    let inv = c.loop-event.invariant in
    let len = ap vec_len c.apply.ensures.replies in
    let cap = ap vec_capacity c.apply.ensures.replies in
    let p = c.push_reserved.ensures in
    let less : c.loop-event.event-index < length c.args.events.now = omega arith in
    let next = take_more c.args.events.now _ c.event-item.result less in
    record {
      count = ap (λ n. n + 1) inv.count;
      room = omega arith;
      so_far = rw (p.items, c.apply.ensures.replies, inv.count, next, ← c.event-item.is)
          (happen_more _ _ _ _ _ _ _ (rw inv.count at inv.so_far) c.in-Ok.ensures.ok);
    }

pub returns : goal.returns
returns g c = λ b profile history first marks channels session up few can same.
    let inv = c.loop-event.invariant in
    let whole : c.loop-event.done ≡ length c.args.events.now = omega arith in
    let all = stands_at b profile history first marks channels session up few can _ _ _ _ same inv.so_far in
    ran_whole b _ _ _ _ _ _ all whole refl
