use Rattle.hub_threads.proofs.outlet_ring.RingOutlet.send.Goals as goal
use Rattle.hub_threads.proofs.{Lists.{closed_in_lines, packets_in_lines}, Rooms.took_and_found}
use Rattle.hub_threads.specs.{Queues.{closed_in, packets_in}, declared.queued.Queued.Queued}
use Rattle.{rtrb.specs.Ring.sent, std.proofs.Common.{◌∙◌, List, ap, rules, sym}}

pub returns-in-Ok-clause-taken : goal.returns-in-Ok-clause-taken
returns-in-Ok-clause-taken c =
    took_and_found _ _ _ _ c.look_for_room.ensures.found record {
      sent = ap (λ (l : List Queued). packets_in l) c.in-Ok.ensures.ok.0
          ∙ packets_in_lines (sent c.args.self.now.producer) c.args.packet;
      closed = search rules;
      capacity = search rules;
      more = rw (← c.if-is_some.ensures) c.in-Ok.ensures.ok.1;
      room = λ other. cc;
    }

-- what is not closed has no closing item
pub invariant_of-self-clause-unclosed : goal.invariant_of-self-clause-unclosed
invariant_of-self-clause-unclosed c none =
    ap (λ (l : List Queued). closed_in l) c.in-Ok.ensures.ok.0
    ∙ closed_in_lines (sent c.args.self.now.producer) c.args.packet ∙ c.args.self.now.unclosed none

pub returns-in-Ok-clause-ends : goal.returns-in-Ok-clause-ends
returns-in-Ok-clause-ends c end ends =
    let ring = c.push.ensures.ring.0 in
    c.look_for_room.ensures.ends end
    (ends.0 ∙ sym ring.0, ends.1 ∙ sym ring.1, ends.2 ∙ sym ring.2, ends.3 ∙ sym ring.3)
