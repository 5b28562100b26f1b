use Rattle.hub_ends.proofs.packet.Packet.followed_by.Goals as goal
use Rattle.hub_ends.proofs.PacketBytes.{few_lines, packets_joined}
use Rattle.std.proofs.Common.{◌++◌, ◌∙◌, arith, rules}

pub overflow_add-self-inside : goal.overflow_add-self-inside
overflow_add-self-inside g c =
    let front = few_lines _ _ c.self.invariant in
    let back = few_lines _ _ c.other.invariant in
    omega (arith, front, back, c.len.ensures.value, c.len-2.ensures.value)

pub of_text-requires : goal.of_text-requires
of_text-requires g c =
    (packets_joined _ _ _ _ _ c.self.invariant c.other.invariant (search rules)).packet

pub returns : goal.returns
returns g c =
    let all = packets_joined c.self.inside.text c.other.inside.text
    c.extend_from_slice-2.new.self.items _ _ c.self.invariant c.other.invariant (search rules) in
    rw (all.lines ∙ (λ k. c.self.view_is k ++ c.other.view_is k)) at c.of_text.ensures
