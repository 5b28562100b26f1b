use Rattle.hub_ends.proofs.packet.Packet.line.Goals as goal
use Rattle.std.proofs.Common.{rules}
use Rattle.hub_ends.{proofs.PacketBytes.{at_place, other_texts, read_at}, specs.Packets.AreLines}
use Rattle.std.proofs.Common.{◌∙◌, arith, sym}

pub loop-preserved : goal.loop-preserved
loop-preserved g c =
    let lines : AreLines c.args.self.now = rw c.self.view_is at c.self.invariant.lines in
    let at = at_place c.args.self.now c.loop.counter lines (omega (arith, c.requires)) in
    let behind = rw (c.loop.invariant, at.1, other_texts at.0 _ at.3) at c.cut.ensures.behind in
    grind (arith, c.unwrap_or-rest.ensures, behind)

pub unreachable-requires : goal.unreachable-requires
unreachable-requires g c =
    let lines : AreLines c.args.self.now = rw c.self.view_is at c.self.invariant.lines in
    let read = read_at _ c.args.place _ c.loop.rest.now _ _ lines c.requires (omega arith)
    c.loop.invariant c.cut-2.ensures.before c.in_ok-line.ensures.value in cc (read.1, c.in-None.is)

pub returns : goal.returns
returns g c =
    let lines : AreLines c.args.self.now = rw c.self.view_is at c.self.invariant.lines in
    let read = read_at _ c.args.place _ c.loop.rest.now _ _ lines c.requires (omega arith)
    c.loop.invariant c.cut-2.ensures.before c.in_ok-line.ensures.value in
    read.2 ∙ sym read.1 ∙ c.in-Some.is

pub loop-init : goal.loop-init
loop-init g c = search rules
