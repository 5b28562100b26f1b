use Rattle.hub_threads.proofs.outlet_ring.RingOutlet.shut.Goals as goal
use Rattle.hub_threads.proofs.Lists.{packets_in_closing, slot_free, told_now}
use Rattle.hub_threads.proofs.outlet_ring.RingOutlet.shut.Goals.{in-Err, in-Ok}
use Rattle.hub_threads.specs.{Queues.{closed_in, packets_in}, declared.queued.Queued.Queued}
use Rattle.{rtrb.specs.Ring.sent, std.proofs.Common.{List, ap, rules, sym, ◌∙◌}}
use Rattle.std.proofs.lemmas.Bool.{false≢true}

pub returns-clause-sent : goal.returns-clause-sent
returns-clause-sent c =
    elim c.match-push.branch [
      | in-Ok w ↦ rw w.self-is (ap (λ (l : List Queued). packets_in l) w.in-Ok.ensures.ok.0
          ∙ packets_in_closing (sent c.args.self.now.producer) c.args.id _)
      | in-Err w ↦ rw w.self-is (ap (λ (l : List Queued). packets_in l) w.in-Err.ensures.full.1)
    ]

pub returns-clause-told : goal.returns-clause-told
returns-clause-told c h =
    elim c.match-push.branch [
      | in-Ok w ↦ rw w.self-is (ap (λ (l : List Queued). closed_in l) w.in-Ok.ensures.ok.0
          ∙ told_now c.args.self.now.closed (sent c.args.self.now.producer) c.args.id _
          (sym c.if-is_some.ensures) c.args.self.now.unclosed)
      | in-Err w ↦ absurd (false≢true (w.in-Err.ensures.succeeds (slot_free _ _ h)))
    ]

pub push-requires : goal.push-requires
push-requires c = search rules
