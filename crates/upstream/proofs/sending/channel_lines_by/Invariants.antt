use Rattle.upstream.proofs.sending.channel_lines_by.Given as goal
use Rattle.{std.proofs.Common.{map, take, ◌≡◌}, upstream.specs.Registration.join_line}

abbrev pub invariant-loop-channel : goal.invariant-loop-channel
invariant-loop-channel l =
    l.lines.items ≡ map (join_line l.mapping l.network.options.keys) (take l.channel-index l.channels)
