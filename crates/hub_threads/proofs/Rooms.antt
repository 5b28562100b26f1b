-- The room of an outlet, over two steps.
use Rattle.{hub_ends.specs.Outlets.{FindsRoom, OutletState, Took}, irc_line.specs.Line.Parts}
use Rattle.std.proofs.Common.{List, arith, false, ◌∙◌}

-- it took a packet, and then more room was found
pub took_and_found : (o mid new : OutletState) (packet : List Parts) → FindsRoom false mid new
    → Took false o packet mid → Took false o packet new
took_and_found o mid new packet found took = record {
  sent = found.sent ∙ took.sent;
  closed = found.closed ∙ took.closed;
  capacity = found.capacity ∙ took.capacity;
  more = omega (arith, took.more, found.more);
  room = λ other. cc;
}
