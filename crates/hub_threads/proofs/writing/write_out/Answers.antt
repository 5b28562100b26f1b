use Rattle.hub_threads.proofs.writing.write_out.Goals as goal
use Rattle.hub_threads.proofs.Bytes.{ends_early, under_way_first, under_way_more, under_way_still}
use Rattle.hub_threads.specs.{Backlogs.rest_of, Rings.items_of}

pub loop-init : goal.loop-init
loop-init g c = rw c.lend_buffer.ensures.end (under_way_first (items_of c.args.end)
    (g.W.Write.contents c.args.out) (rest_of c.new-backlog.result) c.new-backlog.ensures)

pub loop-preserved-in-Some-take_packet : goal.loop-preserved-in-Some-take_packet
loop-preserved-in-Some-take_packet g c =
    under_way_more c.loop.invariant c.in-Some-take_packet.ensures c.saturating_add-count.ensures

pub returns-then-not-write_once-clause-written : goal.returns-then-not-write_once-clause-written
returns-then-not-write_once-clause-written g c =
    let done = c.handed_back.ensures.parts in
    rw (done.0, done.1, done.2, done.3)
    (ends_early (under_way_still c.loop.invariant c.in-None-take_packet.ensures
    c.write_once.ensures.wrote c.write_once.ensures.end) c.is_fresh-fresh.ensures)

pub handed_back-requires : goal.handed_back-requires
handed_back-requires g c =
    let still = under_way_still c.loop.invariant c.in-None-take_packet.ensures
    c.write_once.ensures.wrote c.write_once.ensures.end in
    (_, _, ends_early still c.is_fresh-fresh.ensures)

pub loop-preserved-then-is_empty : goal.loop-preserved-then-is_empty
loop-preserved-then-is_empty g c =
    under_way_still c.loop.invariant c.in-None-take_packet.ensures
    c.write_once.ensures.wrote c.write_once.ensures.end

pub loop-preserved-else-is_empty : goal.loop-preserved-else-is_empty
loop-preserved-else-is_empty g c =
    under_way_still c.loop.invariant c.in-None-take_packet.ensures
    c.write_once.ensures.wrote c.write_once.ensures.end

pub returns-then-is_over-clause-over : goal.returns-then-is_over-clause-over
returns-then-is_over-clause-over g c = rw c.handed_back-then-is_over.ensures.parts.3
    (c.handed_back-then-is_over.ensures.over c.args.idle (c.is_over.ensures.over c.if-is_over.true))
