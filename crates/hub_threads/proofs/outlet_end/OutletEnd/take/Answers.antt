use Rattle.hub_threads.proofs.outlet_end.OutletEnd.take.Goals as goal
use Rattle.hub_threads.proofs.Lists.{as_fresh, at_end, one_more, packets_in_closing}
use Rattle.hub_threads.{proofs.Lists.{packets_in_lines, stale_now}, specs.Queues.packets_in}
use Rattle.{hub_threads.specs.declared.queued.Queued.Queued, rtrb.specs.Ring.received}
use Rattle.std.proofs.Common.{◌∙◌, List, ap, append-nil, rules, sym}

pub invariant_of-self-in-Ok-Lines : goal.invariant_of-self-in-Ok-Lines
invariant_of-self-in-Ok-Lines c =
    let came = (rw c.in-Ok-Lines.field-0-is at c.in-Ok-Lines.ensures.ok).0 in record {
      ended = one_more _ _ c.args.self.now.closed _ (sym c.if-is_some.ensures)
          c.args.self.now.ended came;
      first = stale_now _ _ c.in-Ok-Lines.packet came;
    }

pub invariant_of-self-in-Ok-Closing : goal.invariant_of-self-in-Ok-Closing
invariant_of-self-in-Ok-Closing c =
    let ok = rw c.in-Ok-Closing.field-0-is at c.in-Ok-Closing.ensures.ok in record {
      ended = at_end _ _ c.args.self.now.closed c.in-Ok-Closing.id _ (sym c.if-is_some.ensures)
          c.args.self.now.ended ok.2 ok.0;
      first = as_fresh _ _ c.in-Ok-Closing.id _ _ c.args.self.now.first ok.0;
    }

pub returns-in-Ok-Lines-clause-taken : goal.returns-in-Ok-Lines-clause-taken
returns-in-Ok-Lines-clause-taken c =
    let came = (rw c.in-Ok-Lines.field-0-is at c.in-Ok-Lines.ensures.ok).0 in
    ap (λ (l : List Queued). packets_in l) came
    ∙ packets_in_lines (received c.args.self.now.consumer) c.in-Ok-Lines.packet

pub returns-in-Ok-Closing-clause-taken : goal.returns-in-Ok-Closing-clause-taken
returns-in-Ok-Closing-clause-taken c =
    let ok = rw c.in-Ok-Closing.field-0-is at c.in-Ok-Closing.ensures.ok in
    ap (λ (l : List Queued). packets_in l) ok.0
    ∙ (packets_in_closing (received c.args.self.now.consumer) c.in-Ok-Closing.id _
    ∙ sym (append-nil _))

pub returns-then-is_some-clause-next : goal.returns-then-is_some-clause-next
returns-then-is_some-clause-next c = search rules
